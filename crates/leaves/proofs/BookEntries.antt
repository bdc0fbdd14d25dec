-- Every entry of a closed book is lawful.
use Rattle.std.proofs.Common.{◌≡◌, ℕ, ◌<◌, Some, refl, ◌∙◌, subst, arith}
use Rattle.std.specs.List.{slice_get}
use Rattle.journal.specs.Entries.{Posted, Lawful}
use Rattle.leaves.specs.Leaf.{entry_on}
use Rattle.leaves.specs.Pages.{leaf_at, leaves_used}
use Rattle.leaves.specs.Stores.{book_entries}
use Rattle.leaves.specs.declared.closed_book.ClosedBook.{ClosedBook}
use Rattle.journal.proofs.Lawfulness.{lawful_from}
use Rattle.leaves.proofs.PageEntries.{nth_within, on_leaf}

pub book_lawful : (b : ClosedBook) (k : ℕ) (e : Posted) → slice_get (book_entries b) k ≡ Some e → (k < 4096) × Lawful e
book_lawful b k e h =
    let bs = b.bytes.now in
    let n = leaves_used 4096 bs in
    let within : k < n = nth_within n k bs e h in
    let same : entry_on (leaf_at bs k) ≡ e = let is = on_leaf n k bs (leaf_at bs k) within refl ∙ h in cc in
    (omega arith, subst Lawful same (lawful_from (entry_on (leaf_at bs k)) (b.good k (omega arith)).0))
