use Rattle.std.proofs.Common.{arith, rules}
use Rattle.batch_table.specs.TableSource.{before}
use Rattle.batch_table.proofs.Starts.{each_gives}
use Rattle.batch_table.proofs.table_source.starts.Goals as goal

pub returns : goal.returns
returns c = λ house low.
    each_gives (λ k. before k c.args.postings.now) _ _ 0 17 (λ k y q call. search rules) c.from_fn.ensures.items.each house 0 (omega arith) (omega (arith, low))
