use Rattle.std.proofs.Common.{rules}
use Rattle.batch.proofs.Digits.{natural_by}
use Rattle.batch.proofs.numbers.natural.Goals as goal

pub returns-clause-value : goal.returns-clause-value
returns-clause-value c =
    natural_by c.args.low c.args.high c.args.field.now c.decimal_in.result c.filter.result c.requires c.decimal_in.ensures
    (λ e. search rules)
    (λ n e. search rules)
    (λ n e l. search rules)
    (λ n e u. search rules)
    (λ n e l u. search rules)
