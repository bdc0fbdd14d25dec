use Rattle.std.proofs.Common.{ℕ, min, get_or, drop, sym, ap, ◌∙◌}
use Rattle.leaves.proofs.LeafPairs.{length_pairs}
use Rattle.leaves.proofs.leaf.count_on.Goals as goal

pub returns-clause-value : goal.returns-clause-value
returns-clause-value c =
    let bs = c.args.leaf.now in
    c.min.ensures ∙ ap (λ (n : ℕ). min n 16) c.from.ensures ∙ sym (length_pairs (min (get_or bs 2 0) 16) (drop 16 bs) (drop 32 bs))
