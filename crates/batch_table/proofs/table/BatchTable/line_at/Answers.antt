use Rattle.batch_table.proofs.Orderly.{order_parts}
use Rattle.batch_table.proofs.TableLimits.{range_between, ranged_copy}
use Rattle.batch_table.proofs.table.BatchTable.line_at.Goals as goal

pub returns-clause-ranged : goal.returns-clause-ranged
returns-clause-ranged c =
    let t = c.args.self.now in
    let ranged = range_between _ _ t.lines.now (order_parts t.houses t.postings.now t.lines.now t.good).ranged in
    ranged_copy c.lines_at.result.now c.args.line c.get.result _ (rw c.lines_at.ensures ranged) c.get.ensures.lookup.0 c.get.ensures.lookup.1 c.copied.ensures
