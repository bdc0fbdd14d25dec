-- What a refused push tells of the room before it.
use Rattle.std.proofs.Common.{◌≡◌, ℕ, ◌≤◌, Bool, true, false, cond, ltb, Ok, Err, Result, refl}
use Rattle.std.proofs.lemmas.Bool.{ltb-false}
use Rattle.roll.specs.Rolls.{pushing}
use Rattle.roll.specs.declared.Full.{Full}

pub was_full : (n capacity : ℕ) (e : Full) → Err e ≡ pushing n capacity → capacity ≤ n
was_full n capacity e h = ltb-false n capacity (go (ltb n capacity) h) where
  go : (b : Bool) → ◌≡◌ {A = Result (Unit {0}) Full} (Err e) (cond b (Ok tt) (Err record {})) → b ≡ false
  go true h = cc
  go false h = refl
