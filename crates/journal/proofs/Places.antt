-- Lists by place, and the first pair of an account.
use Rattle.std.proofs.Common.{◌≡◌, ℕ, Bool, true, false, List, [], ◌∷◌, ℤ, Some, Option, cond, refl, eqb}
use Rattle.std.specs.Option.{option_map}
use Rattle.std.specs.List.{find}
use Rattle.journal.specs.Readings.{given_in}
use Rattle.journal.specs.declared.entry.Pair.{Pair}

-- the value that pairs give an account is that of the first pair with it
pub given_in-find : (ps : List Pair) (a : ℕ) → given_in ps a ≡ option_map (λ p. p.value) (find (λ p. eqb p.account a) ps)
given_in-find [] a = refl
given_in-find (p ∷ ps) a = go (eqb p.account a) (given_in ps a) (find (λ q. eqb q.account a) ps) (given_in-find ps a) where
  go : (b : Bool) (g : Option ℤ) (f : Option Pair) → g ≡ option_map (λ q. q.value) f → cond b (Some p.value) g ≡ option_map (λ q. q.value) (cond b (Some p) f)
  go true g f e = refl
  go false g f e = e
