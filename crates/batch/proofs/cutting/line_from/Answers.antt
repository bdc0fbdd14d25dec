use Rattle.std.proofs.Common.{arith}
use Rattle.batch.proofs.Cuts.{four_fields}
use Rattle.batch.proofs.cutting.line_from.Goals as goal

pub returns-in-Field-next-3-clause-fields : goal.returns-in-Field-next-3-clause-fields
returns-in-Field-next-3-clause-fields c =
    four_fields _ c.first_field-first.result c.first_field-second.result c.first_field-third.result _ _ _ _ c.in-Field.is c.in-Field-next.is c.in-Field-next-2.is c.in-Field-next-3.is c.first_field-first.ensures.fields c.first_field-second.ensures.fields c.first_field-third.ensures.fields

pub returns-in-Field-next-3-clause-rest : goal.returns-in-Field-next-3-clause-rest
returns-in-Field-next-3-clause-rest c h =
    absurd (omega (arith, four_fields _ c.first_field-first.result c.first_field-second.result c.first_field-third.result _ _ _ _ c.in-Field.is c.in-Field-next.is c.in-Field-next-2.is c.in-Field-next-3.is c.first_field-first.ensures.fields c.first_field-second.ensures.fields c.first_field-third.ensures.fields))
