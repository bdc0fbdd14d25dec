use Rattle.std.proofs.Common.{◌≡◌, List, ℕ, length, ap, ◌∙◌, arith}
use Rattle.leaves.specs.Pages.{whole_leaves, leaves_used}
use Rattle.leaves.proofs.PageEntries.{length_entries, length_leaves}
use Rattle.leaves.proofs.byte_filing.LeavesReading.size.Goals as goal

pub returns : goal.returns
returns c =
    let l = c.args.self.now in
    let bs = l.bytes.now in
    let all : length c.leaves_in.result.now ≡ whole_leaves bs = ap (λ (ls : List (List ℕ)). length ls) c.leaves_in.ensures ∙ length_leaves (leaves_used 4096 bs) bs ∙ omega arith in
    let held = length_entries (leaves_used l.used bs) bs in
    record { value = all; holds = omega (arith, all, held); small = omega (arith, all) }
