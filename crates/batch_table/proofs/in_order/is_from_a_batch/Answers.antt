use Rattle.batch_table.proofs.Built.{given_decided}
use Rattle.batch_table.proofs.GivenRecords.{filled_pass}
use Rattle.batch_table.proofs.InWords.{orderly_decided}
use Rattle.batch_table.proofs.in_order.is_from_a_batch.Goals as goal

pub returns : goal.returns
returns c = record { test = c.passes.ensures; orderly = orderly_decided _ _ _ _ c.passes.ensures; given = given_decided _ _ _ _ c.passes.ensures; filled = filled_pass }
