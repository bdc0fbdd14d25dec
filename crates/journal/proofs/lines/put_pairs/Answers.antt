use Rattle.std.proofs.Common.{◌≤◌, sym, ap, ◌∙◌, arith}
use Rattle.std.specs.List.{slice_get}
use Rattle.journal.specs.Writing.{state}
use Rattle.journal.specs.declared.line_buffer.LineBuffer.{LineBuffer}
use Rattle.journal.proofs.LineParts.{pairs_more, pairs_none, pairs_all}
use Rattle.journal.proofs.lines.put_pairs.Goals as goal
use Rattle.journal.proofs.lines.put_pairs.Goals.{in-Some, in_default}

pub loop-j-preserved : goal.loop-j-preserved
loop-j-preserved g c =
    let entry = slice_get (g.R.Reading.entries c.args.journal.now) c.args.k in
    elim c.match-pair.branch [
      | in-Some w ↦ (
        pairs_more entry c.loop-j.j w.in-Some.pair _ _ _ w.in-Some.ensures w.put_pair.ensures.bytes (ap state w.line-is) ∙ c.loop-j.invariant.0,
        ap (λ (l : LineBuffer). l.out.ghost_name) w.line-is ∙ w.put_pair.ensures.lender ∙ c.loop-j.invariant.1,
      )
      | in_default w ↦ (
        pairs_none entry c.loop-j.j _ _ w.in_default.ensures (ap state w.line-is) ∙ c.loop-j.invariant.0,
        ap (λ (l : LineBuffer). l.out.ghost_name) w.line-is ∙ c.loop-j.invariant.1,
      )
    ]

pub returns : goal.returns
returns g c =
    let all : c.args.count ≤ c.loop-j.j = omega arith in
    record { bytes = sym (pairs_all _ _ _ _ c.requires all) ∙ c.loop-j.invariant.0; lender = c.loop-j.invariant.1 }
