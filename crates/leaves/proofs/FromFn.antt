-- What `array::from_fn` makes, place by place.
use Rattle.std.proofs.Common.{◌≡◌, ℕ, zero, suc, ◌+◌, ◌<◌, ◌≤◌, ◌⊎◌, inl, inr, List, get_or, sym, subst, arith}
use Rattle.std.proofs.Math.Nat.{eq-or-lt_of_le}
use Rattle.std.specs.Array.{IsFromFnResult, IsFromFnResultFrom}
use denote.Param.Members.{Mut, Called}

each_from :
    {F B : Type 0} (g : Mut F (ℕ × Unit {0}) B) (P : ℕ → B → Type 0) (f : F) (ys : List B)
    → ((k : ℕ) (y : B) (q : F) → Called g f (k, tt) y q → (q ≡ f) × P k y)
    → (n i : ℕ) → IsFromFnResultFrom g f ys i n → (k : ℕ) (d : B) → i ≤ k → k < i + n → P k (get_or ys k d)
each_from {F} {B} g P f ys call zero i each k d from upto = absurd (omega (arith, from, upto))
each_from {F} {B} g P f ys call (suc n) i (q, y, at, called, rest) k d from upto =
    let here : (q ≡ f) × P i y = call i y q called in
    let later : i < k → P k (get_or ys k d) =
    (λ h. each_from g P f ys call n (i + 1) (subst (λ (p : F). IsFromFnResultFrom g p ys (i + 1) n) here.0 rest) k d (omega (arith, h)) (omega (arith, upto))) in
    go (subst (λ (x : B). P i x) (sym (at.1 d)) here.1) later (eq-or-lt_of_le from) where
      go : P i (get_or ys i d) → (i < k → P k (get_or ys k d)) → (i ≡ k) ⊎ (i < k) → P k (get_or ys k d)
      go now later (inl same) = subst (λ (j : ℕ). P j (get_or ys j d)) same now
      go now later (inr h) = later h

-- where a call leaves the closure as it was and gives P, each element has P
pub each_made :
    {F B : Type 0} (g : Mut F (ℕ × Unit {0}) B) (P : ℕ → B → Type 0) (f : F) (ys : List B) (n : ℕ) → IsFromFnResult g f ys n
    → ((k : ℕ) (y : B) (q : F) → Called g f (k, tt) y q → (q ≡ f) × P k y) → (k : ℕ) (d : B) → k < n → P k (get_or ys k d)
each_made g P f ys n made call k d h = each_from g P f ys call n 0 made.each k d (omega arith) (omega (arith, h))
