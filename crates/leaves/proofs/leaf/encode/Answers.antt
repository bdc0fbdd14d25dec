use Rattle.std.proofs.Common.{ap, ◌∙◌, w64, SFits, rules}
use Rattle.std.proofs.lemmas.Int.{to_z-of_z}
use Rattle.journal.specs.Entries.{posted}
use Rattle.leaves.specs.Leaf.{signed_bytes}
use Rattle.leaves.proofs.LeafBytes.{leaf_written}
use Rattle.leaves.proofs.leaf.encode.Goals as goal

pub returns : goal.returns
returns c =
    let e = c.args.e.now in
    let f : SFits w64 e.hand = search rules in
    let hand = c.copy_from_slice-2.ensures.after ∙ c.to_be_bytes-2.ensures ∙ ap signed_bytes (to_z-of_z w64 e.hand f) in
    leaf_written (posted e) _ _ _ c.counted_pairs-pairs.result.now _ _ c.from.ensures (c.copy_from_slice.ensures.after ∙ c.to_be_bytes.ensures) hand
    c.counted_pairs-pairs.ensures.value c.counted_pairs-pairs.ensures.few
    (c.copy_from_slice-3.ensures.after ∙ c.account_places.ensures)
    (c.copy_from_slice-4.ensures.after ∙ c.as_flattened.ensures.value ∙ c.value_places.ensures)
