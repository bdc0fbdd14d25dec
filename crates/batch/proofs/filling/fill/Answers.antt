use Rattle.std.proofs.Common.{◌≡◌, ◌<◌, [], ◌∷◌, length, Ok, sym, ap, ◌∙◌, subst, arith}
use Rattle.batch.specs.Judging.{Accepts}
use Rattle.batch.specs.Limits.{Allowed}
use Rattle.batch.specs.Parts.{lines, fields, first_line}
use Rattle.batch.specs.Plans.{terms, plan_after, noted}
use Rattle.batch.specs.Reading.{batch, said}
use Rattle.batch.specs.Rules.{judged}
use Rattle.batch.specs.Tables.{seen_in, postings_in, orders_in, runs_in, posting_of, order_of, run_of}
use Rattle.batch.proofs.Cuts.{after_less}
use Rattle.batch.proofs.Said.{known_more, step_ok}
use Rattle.batch.proofs.Rolling.{grown_none, grown_more, grown_same, grown_length, anew, tabled, planned_houses, planned_workers, some_left, nothing_left, said_all}
use Rattle.batch.proofs.filling.fill.Goals as goal

pub loop-judged-init : goal.loop-judged-init
loop-judged-init c =
    let e = c.new-reader.ensures in
    ([], e.sizes, e.known, ap (λ l. said c.args.sizes [] (lines l)) e.rest, grown_none _, grown_none _, grown_none _, c.blank.ensures)

pub note-requires-clause-houses : goal.note-requires-clause-houses
note-requires-clause-houses c =
    let i = c.loop-judged.invariant in
    ap (λ p. p.houses) i.7 ∙ planned_houses i.0 ∙ ap (λ s. s.houses) (sym i.2)

pub note-requires-clause-workers : goal.note-requires-clause-workers
note-requires-clause-workers c =
    let i = c.loop-judged.invariant in
    ap (λ p. p.workers) i.7 ∙ planned_workers i.0 ∙ ap (λ s. s.workers) (sym i.2)

pub put-requires-clause-allowed : goal.put-requires-clause-allowed
put-requires-clause-allowed c =
    let reader = c.loop-judged.reader in
    let a : Accepts reader.sizes reader.known reader.rest.now c.in-Ok.judged = c.in-Ok.ensures in
    subst (λ t. Allowed t reader.known c.in-Ok.judged.item) c.loop-judged.invariant.1 a.allowed

pub put-requires-clause-postings : goal.put-requires-clause-postings
put-requires-clause-postings c =
    let i = c.loop-judged.invariant in
    (grown_length (postings_in i.0) c.clear.new.self _ c.clear.ensures.items i.4 ∙ ap (λ s. s.postings) (sym i.2), i.4.size ∙ c.clear.ensures.capacity ∙ c.requires.postings)

pub put-requires-clause-lines : goal.put-requires-clause-lines
put-requires-clause-lines c =
    let i = c.loop-judged.invariant in
    (grown_length (orders_in i.0) c.clear-2.new.self _ c.clear-2.ensures.items i.5 ∙ ap (λ s. s.orders) (sym i.2), i.5.size ∙ c.clear-2.ensures.capacity ∙ c.requires.lines)

pub put-requires-clause-runs : goal.put-requires-clause-runs
put-requires-clause-runs c =
    let i = c.loop-judged.invariant in
    (grown_length (runs_in i.0) c.clear-3.new.self _ c.clear-3.ensures.items i.6 ∙ ap (λ s. s.runs) (sym i.2), i.6.size ∙ c.clear-3.ensures.capacity ∙ c.requires.runs)

pub loop-judged-smaller : goal.loop-judged-smaller
loop-judged-smaller c =
    let reader = c.loop-judged.reader in
    let a : Accepts reader.sizes reader.known reader.rest.now c.in-Ok.judged = c.in-Ok.ensures in
    omega (arith, ap length (c.enter.ensures.rest ∙ a.rest), after_less reader.rest.now (some_left reader.sizes reader.known reader.rest.now c.in-Ok.judged a))

pub loop-judged-preserved : goal.loop-judged-preserved
loop-judged-preserved c =
    let i = c.loop-judged.invariant in
    let past = i.0 in
    let reader = c.loop-judged.reader in
    let item = c.in-Ok.judged.item in
    let a : Accepts reader.sizes reader.known reader.rest.now c.in-Ok.judged = c.in-Ok.ensures in
    let more : 0 < length reader.rest.now = some_left reader.sizes reader.known reader.rest.now c.in-Ok.judged a in
    let says : judged c.args.sizes reader.known (fields (first_line reader.rest.now)) ≡ Ok item = ap (λ t. judged t reader.known (fields (first_line reader.rest.now))) (sym i.1) ∙ a.item in
    let posting : posting_of reader.known.seen reader.known.orders item ≡ posting_of (seen_in past) (length (orders_in past)) item =
    ap (λ s. posting_of s.seen s.orders item) i.2 in (
      item ∷ past,
      c.enter.ensures.sizes ∙ i.1,
      known_more reader.known _ past item i.2 c.enter.ensures.known,
      step_ok c.args.sizes reader.known past reader.rest.now _ item i.2 more says (c.enter.ensures.rest ∙ a.rest) ∙ i.3,
      grown_more (postings_in past) (posting_of (seen_in past) (length (orders_in past)) item) _ _ _ i.4 (grown_same _ _ _ _ posting c.put.ensures.postings),
      grown_more (orders_in past) (order_of item) _ _ _ i.5 c.put.ensures.lines,
      grown_more (runs_in past) (run_of item) _ _ _ i.6 c.put.ensures.runs,
      c.note.ensures ∙ ap (λ s. noted (terms c.loop-judged.plan) s.seen item) i.2 ∙ ap (λ p. noted p (seen_in past) item) i.7,
    )

pub returns : goal.returns
returns c =
    let i = c.loop-judged.invariant in
    let reader = c.loop-judged.reader in
    let f = c.in_default.field-0 in
    let refused = ap (λ t. judged t reader.known (fields (first_line reader.rest.now))) (sym i.1) ∙ c.in_default.ensures in
    let none = nothing_left c.args.sizes reader.known i.0 c.args.text.now reader.rest.now f c.requires.accepted i.3 i.2 refused in
    let b : batch c.args.sizes c.args.text.now ≡ Ok i.0 = said_all c.args.sizes c.args.text.now reader.rest.now i.0 c.requires.accepted i.3 none in
    let one = c.clear.ensures in
    let two = c.clear-2.ensures in
    let three = c.clear-3.ensures in
    record {
      plan = i.7 ∙ ap (plan_after (terms c.args.plan.now)) (sym b);
      postings = tabled postings_in _ i.0 _ _ b (anew (postings_in i.0) _ c.clear.new.self _ one.items one.unused one.capacity one.lender i.4);
      lines = tabled orders_in _ i.0 _ _ b (anew (orders_in i.0) _ c.clear-2.new.self _ two.items two.unused two.capacity two.lender i.5);
      runs = tabled runs_in _ i.0 _ _ b (anew (runs_in i.0) _ c.clear-3.new.self _ three.items three.unused three.capacity three.lender i.6);
    }
