use Rattle.std.proofs.Common.{◌≡◌, ◌/◌, ℕ, List, length, take, ap, ◌∙◌, arith}
use Rattle.std.specs.Simd.{first_chunks}
use Rattle.leaves.specs.Pages.{leaves_used}
use Rattle.leaves.proofs.PageEntries.{take_leaves}
use Rattle.leaves.proofs.pages.leaves_in.Goals as goal

pub returns : goal.returns
returns c =
    let bs = c.args.bytes.now in
    let is : c.min-2.result ≡ leaves_used c.args.used bs = omega (arith, c.as_chunks.ensures.front_len) in
    ap (λ (ls : List (List ℕ)). take c.min-2.result ls) c.as_chunks.ensures.front
    ∙ take_leaves c.min-2.result (length bs / 160) bs (omega arith)
    ∙ ap (λ (n : ℕ). first_chunks 160 n bs) is
