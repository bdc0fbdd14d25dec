-- The entries in the host's records.
use Rattle.std.specs.Prelude.{ℕ, min, List, map, take}
use Rattle.roll.specs.Rolls.{items, capacity_of}
use Rattle.journal.specs.Entries.{Posted, posted}
use Rattle.journal.specs.declared.cells.Cells.{Cells}
use Rattle.journal.specs.declared.entry.Entry.{Entry}

-- the records filed so far; a journal has at most 4,096
abbrev pub records : Cells → List Entry
records c = take 4096 (items c.roll)

abbrev pub cell_entries : Cells → List Posted
cell_entries c = map posted (records c)

abbrev pub cell_size : Cells → ℕ
cell_size c = min (capacity_of c.roll) 4096
