use Rattle.std.proofs.Common.{ℕ, List, set, replicate, ap, ◌∙◌, w64, SFits, rules}
use Rattle.std.specs.List.{flat_map}
use Rattle.std.proofs.lemmas.List.{take_all}
use Rattle.std.proofs.lemmas.Int.{to_z-of_z}
use Rattle.journal.specs.Entries.{pair_at}
use Rattle.leaves.specs.Leaf.{signed_bytes}
use Rattle.journal.specs.declared.entry.Pair.{Pair}
use Rattle.leaves.proofs.LeafBytes.{filled, filled_more, filled_values}
use Rattle.leaves.proofs.leaf.value_places.Goals as goal

pub loop-j-preserved : goal.loop-j-preserved
loop-j-preserved c =
    let ps = c.args.pairs.now in
    let j = c.loop-j.j in
    let f : SFits w64 (pair_at ps j).value = search rules in
    let value = c.to_be_bytes.ensures ∙ ap signed_bytes (to_z-of_z w64 (pair_at ps j).value f) in
    ap (λ (xs : List (List ℕ)). set xs j c.to_be_bytes.result) c.loop-j.invariant
    ∙ filled_more (λ (p : Pair). signed_bytes p.value) (replicate 8 0) ps j _ (search rules) c.requires value

pub returns : goal.returns
returns c =
    ap (flat_map (λ (bs : List ℕ). bs))
    (c.loop-j.invariant ∙ ap (filled (λ (p : Pair). signed_bytes p.value) (replicate 8 0)) (take_all c.loop-j.j c.args.pairs.now (search rules)))
    ∙ filled_values c.args.pairs.now c.requires
