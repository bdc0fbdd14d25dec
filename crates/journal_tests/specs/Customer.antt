-- The entries of a journal on the heap.
use Rattle.std.specs.Prelude.{ℕ, List, map, vec_items}
use Rattle.journal.specs.Entries.{Posted, posted}
use Rattle.journal_tests.specs.declared.heap.HeapJournal.{HeapJournal}

abbrev pub heap_entries : HeapJournal → List Posted
heap_entries h = map posted (vec_items h.entries)

abbrev pub heap_size : HeapJournal → ℕ
heap_size h = h.size
