-- In every journal in bytes each leaf in use is the leaf of its entry.
use Rattle.leaves.specs.Pages.{leaf_at}
use Rattle.leaves.specs.Stores.{GoodLeaves}
use Rattle.leaves.specs.declared.byte_journal.Leaves.{Leaves}
use Rattle.leaves.proofs.LeafTest.{leaf_of_own}

pub leaves_good : (l : Leaves) → GoodLeaves l
leaves_good l k h = leaf_of_own (leaf_at l.bytes.now k) (l.good k h)
