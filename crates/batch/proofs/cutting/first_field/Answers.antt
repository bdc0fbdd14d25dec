use Rattle.std.proofs.Common.{arith}
use Rattle.std.proofs.lemmas.List.{take_rest}
use Rattle.batch.proofs.Cuts.{cut_more, cut_line, cut_end}
use Rattle.batch.proofs.cutting.first_field.Goals as goal

pub returns-in-empty : goal.returns-in-empty
returns-in-empty c =
    let q = cut_end c.args.text.now _ _ c.stop.result c.stop.ensures.front c.split_at.ensures.front c.split_at.ensures.back (omega arith) in
    record { fields = q.0; after = q.1 }

pub returns-in-44 : goal.returns-in-44
returns-in-44 c =
    let rest = c.split_at.result.1.now in
    let q = cut_more c.args.text.now _ rest _ c.stop.result c.stop.ensures.front c.split_at.ensures.front c.split_at.ensures.back (omega arith) (omega arith) (take_rest rest 1) in
    record { fields = q.0; after = q.1 }

pub returns-in-len1-up : goal.returns-in-len1-up
returns-in-len1-up c =
    let rest = c.split_at.result.1.now in
    let q = cut_line c.args.text.now _ rest _ c.stop.result c.stop.ensures.front c.split_at.ensures.front c.split_at.ensures.back (omega arith) (λ e. omega arith) (take_rest rest 1) in
    record { fields = q.0; after = q.1 }
