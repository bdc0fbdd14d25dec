use Rattle.std.proofs.lemmas.List.{take_min}
use Rattle.journal.proofs.cells.CellsRecords.records.Goals as goal

pub returns : goal.returns
returns c = rw (c.min.ensures, c.as_slice-filed.ensures, take_min)
