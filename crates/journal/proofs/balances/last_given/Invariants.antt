use Rattle.std.proofs.Common.{◌≡◌}
use Rattle.journal.specs.Balances.{last_given}
use Rattle.journal.proofs.balances.last_given.Given as goal

-- no entry from here to the end gives the account
abbrev pub invariant-loop-place : goal.invariant-loop-place
invariant-loop-place g l = last_given (g.R.Reading.entries l.journal) l.account l.place ≡ last_given (g.R.Reading.entries l.journal) l.account l.k
