use Rattle.std.proofs.Common.{◌≡◌, drop}
use Rattle.journal.specs.Lines.{commaed, pair_fields}
use Rattle.journal.specs.Writing.{written, state, pairs_at}
use Rattle.journal.proofs.lines.put_pairs.Given as goal

-- what is left to write, written from here, gives what all the pairs give, written from the start
abbrev pub invariant-loop-j : goal.invariant-loop-j
invariant-loop-j g l =
    let pairs = pairs_at (g.R.Reading.entries l.journal) l.k in
    (written (commaed (pair_fields (drop l.j pairs))) (state l.line) ≡ written (commaed (pair_fields pairs)) (state l.initial.line))
    × (l.line.out.ghost_name ≡ l.initial.line.out.ghost_name)
