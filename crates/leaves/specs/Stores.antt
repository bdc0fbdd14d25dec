-- The entries on the host's leaves and in a closed book.
use Rattle.std.specs.Prelude.{ℕ, ◌<◌, List}
use Rattle.journal.specs.Entries.{Posted}
use Rattle.leaves.specs.Leaf.{IsLeaf}
use Rattle.leaves.specs.Pages.{leaf_at, whole_leaves, leaves_used, page_entries}
use Rattle.leaves.specs.declared.byte_journal.Leaves.{Leaves}
use Rattle.leaves.specs.declared.closed_book.ClosedBook.{ClosedBook}

abbrev pub leaf_entries : Leaves → List Posted
leaf_entries l = page_entries l.used l.bytes.now

abbrev pub leaf_size : Leaves → ℕ
leaf_size l = whole_leaves l.bytes.now

-- each leaf in use is the leaf of its entry: what the fact `good` of the type comes to, and so true of every journal in bytes
abbrev pub GoodLeaves : Leaves → Type 0
GoodLeaves l = (k : ℕ) → k < leaves_used l.used l.bytes.now → IsLeaf (leaf_at l.bytes.now k)

-- all leaves of a closed book are in use
abbrev pub book_entries : ClosedBook → List Posted
book_entries b = page_entries 4096 b.bytes.now
