use Rattle.std.proofs.Common.{w64, SFits, rules}
use Rattle.std.proofs.lemmas.Int.{to_z-of_z}
use Rattle.journal.proofs.Written.{then_fields}
use Rattle.journal.proofs.line_buffer.LineBuffer.put_pair.Goals as goal

pub returns : goal.returns
returns c =
    let fits : SFits w64 c.args.pair.value = search rules in
    rw (to_z-of_z w64 c.args.pair.value fits) at (then_fields _ _ _ _ _ c.put_field.ensures c.put_field-2.ensures)
