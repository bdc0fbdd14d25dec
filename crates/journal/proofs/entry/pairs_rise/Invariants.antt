use Rattle.std.proofs.Common.{◌≡◌, drop}
use Rattle.journal.specs.Entries.{rises}
use Rattle.journal.proofs.entry.pairs_rise.Given as goal

-- what is left to test decides the whole
abbrev pub invariant-loop-pair : goal.invariant-loop-pair
invariant-loop-pair l = rises l.least (drop l.pair-index l.pairs) ≡ rises 0 l.pairs
