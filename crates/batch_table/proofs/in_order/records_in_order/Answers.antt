use Rattle.std.proofs.Common.{◌+◌, true, false, drop, sym, ap, ◌∙◌, arith, rules}
use Rattle.batch_table.specs.declared.in_order.Reached.{Reached}
use Rattle.batch_table.specs.Orderly.{posting_at}
use Rattle.batch_table.proofs.Orderly.{next_parts, order_from, order_step, order_all}
use Rattle.batch_table.proofs.in_order.records_in_order.Goals as goal

pub returns-then-not-allows : goal.returns-then-not-allows
returns-then-not-allows c =
    order_step c.args.houses c.args.end c.loop-posting.reached c.args.postings.now c.loop-posting.posting-index false (search rules) c.if-not-allows.ensures
    ∙ c.loop-posting.invariant.1

pub loop-posting-preserved : goal.loop-posting-preserved
loop-posting-preserved c =
    let ps = c.args.postings.now in
    let i = c.loop-posting.posting-index in
    let s = c.loop-posting.reached in
    let next = next_parts c.args.houses s (posting_at ps i) (sym c.if-not-allows.ensures) in (
      omega (arith, next.here, ap (λ (r : Reached). r.here) c.with-reached.ensures),
      ap (λ (r : Reached). order_from c.args.houses c.args.end r (drop (i + 1) ps)) c.with-reached.ensures
          ∙ order_step c.args.houses c.args.end s ps i true (search rules) c.if-not-allows.ensures ∙ c.loop-posting.invariant.1,
    )

pub returns : goal.returns
returns c =
    c.may_end.ensures ∙ order_all c.args.houses c.args.end c.loop-posting.reached c.args.postings.now c.loop-posting.posting-index c.loop-posting-test.false
    ∙ c.loop-posting.invariant.1
