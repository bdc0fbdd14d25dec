use Rattle.std.proofs.Common.{eqb, rules}
use Rattle.std.proofs.lemmas.Iterator.{YieldsList-from_slice}
use Rattle.std.proofs.lemmas.Iterator.Search.{find_from_yields_List}
use borrow.Author.Tests.{tests}
use Rattle.journal.specs.Entries.{posted}
use Rattle.journal.specs.declared.entry.Pair.{Pair}
use Rattle.journal.proofs.Places.{given_in-find}
use Rattle.journal.proofs.entry.Entry.value_for.Goals as goal

pub returns : goal.returns
returns c =
    let found = find_from_yields_List (λ (p : Pair). eqb p.account c.args.account) _ _ c.find.result c.find.ensures.ran (YieldsList-from_slice (posted c.args.self.now).pairs cc) (λ x b q k. search (rules, tests)) in
    rw (given_in-find, ← found) (search rules)
