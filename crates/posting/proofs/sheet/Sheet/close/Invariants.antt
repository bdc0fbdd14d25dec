use Rattle.posting.proofs.Gathered.{Gathered}
use Rattle.posting.proofs.sheet.Sheet.close.Given as goal

abbrev pub invariant-loop-account : goal.invariant-loop-account
invariant-loop-account l = Gathered l.self l.account l.draft
