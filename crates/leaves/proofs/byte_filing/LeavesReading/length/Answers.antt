use Rattle.std.proofs.Common.{List, ℕ, length, sym, ap, ◌∙◌}
use Rattle.leaves.proofs.PageEntries.{length_entries, length_leaves}
use Rattle.leaves.proofs.byte_filing.LeavesReading.length.Goals as goal

pub returns : goal.returns
returns c =
    let bs = c.args.self.now.bytes.now in
    ap (λ (ls : List (List ℕ)). length ls) c.leaves_in.ensures ∙ length_leaves _ bs ∙ sym (length_entries _ bs)
