use Rattle.std.proofs.Common.{ℕ, List, map, ap, ◌∙◌}
use Rattle.std.specs.List.{slice_get}
use Rattle.leaves.specs.Leaf.{entry_on}
use Rattle.leaves.proofs.PageEntries.{entries_of_leaves, entry_picked}
use Rattle.leaves.proofs.closed_book.ClosedBook.leaf.Goals as goal

pub returns : goal.returns
returns c =
    entry_picked c.leaves_in.result.now c.args.k c.get.result c.get.ensures.lookup
    ∙ ap (λ (ls : List (List ℕ)). slice_get (map entry_on ls) c.args.k) c.leaves_in.ensures
    ∙ ap (λ es. slice_get es c.args.k) (entries_of_leaves _ c.args.self.now.bytes.now)
