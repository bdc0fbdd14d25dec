use Rattle.std.proofs.Common.{◌≡◌, ◌+◌, ◌-◌, ◌*◌, ℕ, true, false, min, slice_index, eqb, take, drop, rules, refl, ap, arith, ◌∙◌}
use borrow.Author.Tests.{tests}
use Rattle.std.specs.Option.{option_map}
use Rattle.std.proofs.lemmas.Iterator.{YieldsList-from_slice, IsFirst-from_position}
use Rattle.leaves.specs.Leaf.{signed_of}
use Rattle.leaves.proofs.LeafPairs.{length_pairs, given_first}
use Rattle.leaves.proofs.leaf.given_on.Goals as goal

pub returns : goal.returns
returns c =
    let bs = c.args.leaf.now in
    let n = min (slice_index bs 2) 16 in
    let count : c.count_on.result ≡ n = c.count_on.ensures.value ∙ length_pairs n (drop 16 bs) (drop 32 bs) in
    let cut : (16 + c.count_on.result) - 16 ≡ n = omega (arith, count) in
    let first = IsFirst-from_position _ _ _ (λ a. eqb a c.args.account ≡ true) (λ a. eqb a c.args.account ≡ false) c.position.ensures.ran
    (YieldsList-from_slice c.iter.result.rest.now refl) (λ x q k. search (rules, tests)) (λ x q k. search (rules, tests)) in
    let value : c.map.result ≡ option_map (λ j. signed_of (drop (32 + 8 * j) bs)) c.position.result = search rules in
    value
    ∙ given_first bs c.iter.result.rest.now n c.args.account c.position.result (omega arith) (c.iter.ensures.rest ∙ ap (λ (k : ℕ). take k (drop 16 bs)) cut) first
