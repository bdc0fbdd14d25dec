-- What holds of each place of a list, by its default past the end.
use Rattle.std.proofs.Common.{◌≡◌, ℕ, zero, suc, List, [], ◌∷◌, get_or, set, replicate, refl}

pub all_same : {X : Type 0} (n k : ℕ) (x : X) → get_or (replicate n x) k x ≡ x
all_same zero k x = refl
all_same (suc n) zero x = refl
all_same (suc n) (suc k) x = all_same n k x

pub set_all : {X : Type 0} (P : X → Type 0) (xs : List X) (i : ℕ) (x d : X) → ((k : ℕ) → P (get_or xs k d)) → P x → (k : ℕ) → P (get_or (set xs i x) k d)
set_all P [] i x d h p k = h k
set_all P (y ∷ ys) zero x d h p zero = p
set_all P (y ∷ ys) zero x d h p (suc k) = h (suc k)
set_all P (y ∷ ys) (suc i) x d h p zero = h 0
set_all P (y ∷ ys) (suc i) x d h p (suc k) = set_all P ys i x d (λ j. h (suc j)) p k
