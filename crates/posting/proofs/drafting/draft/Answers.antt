use Rattle.std.proofs.Common.{◌≡◌, ◌-◌, ap, ◌∙◌, arith, w64}
use Rattle.std.proofs.lemmas.Int.{to_z-of_z}
use Rattle.posting.specs.Alone.{balances_after, worked, blank, closed}
use Rattle.posting.proofs.Lines.{worked_more, worked_ended, worked_voided, worked_out, worked_all, worked_same, lines_few, blank_none}
use Rattle.posting.proofs.Locality.{always_local}
use Rattle.posting.proofs.Entered.{always_enterable}
use Rattle.posting.proofs.drafting.draft.Goals.{else-loop-line-test, then-loop-line-test+in-Break-Closed}
use Rattle.posting.proofs.drafting.draft.Goals as goal

pub loop-line-init : goal.loop-line-init
loop-line-init g c =
    (worked_all _ _ _ _ _ _ _ c.blank-sheet.ensures, omega (arith, blank_none _ _ c.blank-sheet.ensures))

pub loop-line-preserved : goal.loop-line-preserved
loop-line-preserved g c = (
  worked_more _ _ _ _ _ _ _ _ _ c.loop-line-test.true c.in-Continue.ensures ∙ c.loop-line.invariant.0,
  lines_few (g.S.Source.meaning c.args.source.now) c.args.posting.house c.args.posting.number
      (balances_after (g.R.Reading.entries c.args.journal.now) c.args.openings.now c.args.k) c.loop-line.line c.loop-line.sheet _ _ c.loop-line.invariant.1 c.in-Continue.ensures,
)

pub returns-in-Break-Voided : goal.returns-in-Break-Voided
returns-in-Break-Voided g c = record {
  value =
      c.spoil.ensures.value ∙ worked_voided _ _ _ _ _ _ _ _ _ c.loop-line-test.true (rw c.in-Break-Voided.field-0-is at c.in-Break-Voided.ensures) ∙ c.loop-line.invariant.0
      ∙ worked_same _ _ _ _ _ _ _ _ (to_z-of_z w64 c.args.start c.ranges.start) c.longest_posting-lines.ensures.value;
  counted = c.spoil.ensures.counted;
  local = always_local _ c.longest_posting-lines.ensures.limits;
  enterable = always_enterable _ c.longest_posting-lines.ensures.limits;
}

pub close-requires : goal.close-requires
close-requires g c =
    let limits = c.longest_posting-lines.ensures.limits in
    let lines = c.longest_posting-lines.ensures.value in
    elim c.loop-line-test.branch [
      | else-loop-line-test w ↦ rw w.sheet-is (omega (arith, c.loop-line.invariant.1, c.loop-line.auto.line-end, lines, limits.short))
      | then-loop-line-test+in-Break-Closed w ↦
          let few = lines_few (g.S.Source.meaning c.args.source.now) c.args.posting.house c.args.posting.number
          (balances_after (g.R.Reading.entries c.args.journal.now) c.args.openings.now c.args.k) c.loop-line.line c.loop-line.sheet _ _ c.loop-line.invariant.1 w.in-Break-Closed.ensures in
          rw w.sheet-is (omega (arith, few, w.loop-line-test.true, lines, limits.short))
    ]

pub returns : goal.returns
returns g c =
    let end : closed c.loop-line-test.sheet ≡ worked (g.S.Source.meaning c.args.source.now) c.args.posting.house c.args.posting.number
    (balances_after (g.R.Reading.entries c.args.journal.now) c.args.openings.now c.args.k) _ c.longest_posting-lines.result 0 (blank _) =
    elim c.loop-line-test.branch [
      | else-loop-line-test w ↦
          let out : c.longest_posting-lines.result - c.loop-line.line ≡ 0 = omega (arith, w.loop-line-test.false) in
          ap closed w.sheet-is ∙ worked_out _ _ _ _ _ _ _ _ out ∙ c.loop-line.invariant.0
      | then-loop-line-test+in-Break-Closed w ↦
          ap closed w.sheet-is ∙ worked_ended _ _ _ _ _ _ _ _ _ w.loop-line-test.true (rw w.in-Break-Closed.field-0-is at w.in-Break-Closed.ensures) ∙ c.loop-line.invariant.0
    ] in
    record {
      value = c.close.ensures.value ∙ end ∙ worked_same _ _ _ _ _ _ _ _ (to_z-of_z w64 c.args.start c.ranges.start) c.longest_posting-lines.ensures.value;
      counted = c.close.ensures.counted;
      local = always_local _ c.longest_posting-lines.ensures.limits;
      enterable = always_enterable _ c.longest_posting-lines.ensures.limits;
    }
