use Rattle.std.proofs.Common.{List, slice_index, take, drop, ap, ◌∙◌, w64, SFits, rules}
use Rattle.std.proofs.lemmas.Int.{to_z-of_z}
use Rattle.journal.specs.declared.entry.Pair.{Pair}
use Rattle.journal.specs.declared.entry.PostingId.{PostingId}
use Rattle.leaves.proofs.LeafPairs.{take_pairs}
use Rattle.leaves.proofs.RoundTrip.{same}
use Rattle.leaves.proofs.leaf.decode.Goals as goal

pub returns-clause-says : goal.returns-clause-says
returns-clause-says c =
    let bs = c.args.leaf.now in
    let f : SFits w64 c.hand_on.result = search rules in
    same _ _ _ _ _ _ _ _ _ _
    (ap (λ (id : PostingId). id.house) c.identity_on-house.ensures)
    (ap (λ (id : PostingId). id.number) c.identity_on-house.ensures)
    c.void_on.ensures
    (to_z-of_z w64 c.hand_on.result f ∙ c.hand_on.ensures)
    (ap (λ (ps : List Pair). take (slice_index bs 2) ps) c.all_pairs.ensures ∙ take_pairs (slice_index bs 2) 16 (drop 16 bs) (drop 32 bs))
