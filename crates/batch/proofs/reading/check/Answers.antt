use Rattle.std.proofs.Common.{◌≡◌, ◌+◌, ◌<◌, ◌≤◌, Bool, cond, ◌∷◌, [], length, Ok, Err, refl, sym, ap, ◌∙◌, arith, rules, false-eqb}
use Rattle.batch.specs.declared.items.BatchRefusal.TheVariants.{End}
use Rattle.batch.specs.Judging.{Accepts}
use Rattle.batch.specs.Parts.{lines, fields, first_line}
use Rattle.batch.specs.Rules.{judged}
use Rattle.batch.specs.Reading.{answered, said}
use Rattle.batch.specs.Refusals.{refusal_at}
use Rattle.batch.proofs.Cuts.{after_less}
use Rattle.batch.proofs.Said.{known_more, step_ok, batch_refused, batch_ended, closes_open, closes_missing, closes_well, ends_feed, ends_open}
use Rattle.batch.proofs.reading.check.Goals.{then-not-ends_with-via-then-not-ends_with, then-not-ends_with-via-else-not-ends_with+then-reader}
use Rattle.batch.proofs.reading.check.Goals as goal

pub loop-line-init : goal.loop-line-init
loop-line-init c =
    let e = c.new-reader.ensures in
    ([], e.sizes, e.known, refl, ap (λ l. said c.args.sizes [] (lines l)) e.rest, omega (arith, ap length e.rest))

pub returns-in-Err : goal.returns-in-Err
returns-in-Err c =
    let i = c.loop-line.invariant in
    let reader = c.loop-line.reader in
    let f = c.in-Err.fault in
    let some : 0 < length c.args.text.now = search rules in
    let more : 0 < length reader.rest.now = search rules in
    let n : c.loop-line.line + 1 ≡ length i.0 + 1 = omega (arith, i.3) in
    let refused : judged c.args.sizes reader.known (fields (first_line reader.rest.now)) ≡ Err f = ap (λ t. judged t reader.known (fields (first_line reader.rest.now))) (sym i.1) ∙ c.in-Err.ensures in
    ap Err (c.at.ensures ∙ ap (λ k. refusal_at k f) n)
    ∙ sym (ap answered (batch_refused c.args.sizes reader.known i.0 c.args.text.now reader.rest.now f some (omega arith) i.4 i.2 more refused))

pub loop-line-smaller : goal.loop-line-smaller
loop-line-smaller c =
    let reader = c.loop-line.reader in
    let more : 0 < length reader.rest.now = omega (arith, false-eqb (length reader.rest.now) 0 c.loop-line-test.ensures) in
    let a : Accepts reader.sizes reader.known reader.rest.now c.in-Ok.judged = search rules in
    omega (arith, ap length (c.enter.ensures.rest ∙ a.rest), after_less reader.rest.now more)

pub loop-line-preserved : goal.loop-line-preserved
loop-line-preserved c =
    let i = c.loop-line.invariant in
    let reader = c.loop-line.reader in
    let item = c.in-Ok.judged.item in
    let more : 0 < length reader.rest.now = omega (arith, false-eqb (length reader.rest.now) 0 c.loop-line-test.ensures) in
    let a : Accepts reader.sizes reader.known reader.rest.now c.in-Ok.judged = search rules in
    let said : judged c.args.sizes reader.known (fields (first_line reader.rest.now)) ≡ Ok item = ap (λ t. judged t reader.known (fields (first_line reader.rest.now))) (sym i.1) ∙ a.item in
    let rest = c.enter.ensures.rest ∙ a.rest in (
      item ∷ i.0,
      c.enter.ensures.sizes ∙ i.1,
      known_more reader.known _ i.0 item i.2 c.enter.ensures.known,
      omega (arith, i.3),
      step_ok c.args.sizes reader.known i.0 reader.rest.now _ item i.2 more said rest ∙ i.4,
      omega (arith, i.5, ap length rest, after_less reader.rest.now more),
    )

pub returns-then-not-ends_with : goal.returns-then-not-ends_with
returns-then-not-ends_with c =
    let i = c.loop-line.invariant in
    let text = c.args.text.now in
    let some : 0 < length text = search rules in
    let few : length text ≤ 32768 = omega arith in
    let none : length c.loop-line.reader.rest.now ≡ 0 = search rules in
    ap (λ n. Err (End n)) i.3
    ∙ sym (ap answered (batch_ended c.args.sizes i.0 text c.loop-line.reader.rest.now some few i.4 none
    ∙ ap (λ (b : Bool). cond b (Ok i.0) (Err (End (length i.0)))) (elim c.then-not-ends_with.branch [
      | then-not-ends_with-via-then-not-ends_with w ↦ closes_open text i.0 (ends_open text c.ends_with.result some c.ends_with.ensures.value w.if-not-ends_with.true)
      | then-not-ends_with-via-else-not-ends_with+then-reader w ↦ closes_missing text i.0 c.loop-line.reader.known i.2 w.if-reader.true
    ])))

pub returns : goal.returns
returns c =
    let i = c.loop-line.invariant in
    let text = c.args.text.now in
    let some : 0 < length text = search rules in
    let few : length text ≤ 32768 = omega arith in
    let none : length c.loop-line.reader.rest.now ≡ 0 = search rules in
    sym (ap answered (batch_ended c.args.sizes i.0 text c.loop-line.reader.rest.now some few i.4 none
    ∙ ap (λ (b : Bool). cond b (Ok i.0) (Err (End (length i.0)))) (closes_well text i.0 c.loop-line.reader.known i.2 (ends_feed text c.ends_with.result some c.ends_with.ensures.value c.if-not-ends_with.false) c.if-reader.false)))
