use Rattle.std.proofs.Common.{◌≡◌, rules}
use Rattle.leaves.proofs.FromFn.{each_made}
use Rattle.leaves.proofs.LeafPairs.{pair_on, pairs_read}
use Rattle.leaves.proofs.leaf.all_pairs.Goals as goal

pub returns : goal.returns
returns c =
    let bs = c.args.leaf.now in
    pairs_read bs 16 _ c.from_fn.ensures.items.long
    (each_made _ (λ j pair. pair ≡ pair_on bs j) _ _ 16 c.from_fn.ensures.items (λ j pair q call. search rules))
