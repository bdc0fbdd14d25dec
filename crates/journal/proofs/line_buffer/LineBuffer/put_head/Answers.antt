use Rattle.std.proofs.Common.{◌≡◌, ◌∙◌, w64}
use Rattle.std.proofs.lemmas.Int.{to_z-of_z}
use Rattle.journal.specs.Lines.{void_mark}
use Rattle.journal.proofs.Written.{void_byte, then_wrote, then_fields}
use Rattle.journal.proofs.line_buffer.LineBuffer.put_head.Goals as goal

pub returns : goal.returns
returns c =
    let one = then_fields _ _ _ _ _ c.put_field.ensures c.put_field-2.ensures in
    let two = then_fields _ _ _ _ _ one c.put_field-3.ensures in
    let three = then_fields _ _ _ _ _ two c.put_field-4.ensures in
    let four = then_fields _ _ _ _ _ three c.put_field-5.ensures in
    let all = then_wrote _ _ _ _ _ c.put_number.ensures four in
    let mark : c.from.result ≡ void_mark c.args.void = c.from.ensures ∙ void_byte c.args.void in
    rw (mark, to_z-of_z w64 c.args.hand c.ranges.hand) at all
