use Rattle.std.proofs.Common.{ℕ, List, set, refl, ap, ◌∙◌, rules}
use Rattle.std.proofs.lemmas.List.{take_all}
use Rattle.journal.specs.Entries.{pair_at}
use Rattle.journal.specs.declared.entry.Pair.{Pair}
use Rattle.leaves.proofs.LeafBytes.{filled, filled_more, filled_accounts}
use Rattle.leaves.proofs.leaf.account_places.Goals as goal

pub loop-j-preserved : goal.loop-j-preserved
loop-j-preserved c =
    let ps = c.args.pairs.now in
    let j = c.loop-j.j in
    ap (λ (xs : List ℕ). set xs j (pair_at ps j).account) c.loop-j.invariant
    ∙ filled_more (λ (p : Pair). p.account) 0 ps j _ (search rules) c.requires refl

pub returns : goal.returns
returns c =
    c.loop-j.invariant
    ∙ ap (filled (λ (p : Pair). p.account) 0) (take_all c.loop-j.j c.args.pairs.now (search rules))
    ∙ filled_accounts c.args.pairs.now
