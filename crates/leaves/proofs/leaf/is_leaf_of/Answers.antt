use Rattle.std.proofs.Common.{◌≡◌, List, ℕ, Decides, subst}
use Rattle.std.proofs.lemmas.Slice.Eq.{slice_eq-Decides}
use Rattle.std.proofs.lemmas.Bool.Decides.{Decides-eqb}
use Rattle.leaves.proofs.leaf.is_leaf_of.Goals as goal

pub returns : goal.returns
returns c = subst (λ (bs : List ℕ). Decides c.eq.result (bs ≡ c.args.leaf.now)) c.encode.ensures (slice_eq-Decides Decides-eqb _ _ _ c.eq.ensures)
