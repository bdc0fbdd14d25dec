use Rattle.std.proofs.Common.{◌≡◌, min, slice_index, drop, ap, ltb, ◌∙◌, ℕ, rules}
use Rattle.std.proofs.lemmas.Option.{IfSome_then}
use Rattle.leaves.proofs.LeafPairs.{pair_on, pair_if, length_pairs}
use Rattle.leaves.proofs.leaf.pair_on.Goals as goal

pub returns : goal.returns
returns c =
    let bs = c.args.leaf.now in
    let n = min (slice_index bs 2) 16 in
    pair_if bs n c.args.j _
    (c.then.ensures.variant ∙ ap (λ (k : ℕ). ltb c.args.j k) (c.count_on.ensures.value ∙ length_pairs n (drop 16 bs) (drop 32 bs)))
    (IfSome_then _ {Q = λ p. p ≡ pair_on bs c.args.j} c.then.ensures.some (λ p h. search rules))
