use Rattle.std.proofs.Common.{arith}
use Rattle.std.proofs.lemmas.List.{length-take}
use Rattle.roll.specs.Rolls.{items}
use Rattle.journal.proofs.cells.CellsRecords.most.Goals as goal

pub returns-clause-holds : goal.returns-clause-holds
returns-clause-holds c =
    let r = c.args.self.now.roll in
    omega (arith, c.min.ensures, c.capacity.ensures, length-take 4096 (items r), length-take r.used r.cells.now)
