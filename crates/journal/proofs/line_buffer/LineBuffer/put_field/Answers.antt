use Rattle.journal.proofs.Written.{one_field}
use Rattle.journal.proofs.line_buffer.LineBuffer.put_field.Goals as goal

pub returns : goal.returns
returns g c = one_field _ _ _ _ c.put.ensures c.put_number.ensures
