use Rattle.leaves.proofs.Opened.{kept_leaves, kept_opened}
use Rattle.leaves.proofs.closed_book.ClosedBook.open.Goals as goal

pub invariant_of-result : goal.invariant_of-result
invariant_of-result c =
    record { good = kept_leaves _ _ c.checked.ensures }

pub returns : goal.returns
returns c = kept_opened _ _ c.checked.ensures
