-- Cents with and without a minus.
use Rattle.std.proofs.Common.{◌≡◌, ℕ, zero, suc, Some, Option, ◌-◌, ◌<◌, ◌≤◌, Bool, cond, List, [], ◌∷◌, length, get_or, take, drop, pos, negsuc, ◌-ℤ◌, neg_ℤ, None, sym, refl, ap, ◌∙◌, arith, w64, SFits, to_z, of_z, eq-eqb, ne_eqb, le-leb}
use Rattle.std.proofs.lemmas.List.{take_rest}
use Rattle.std.proofs.lemmas.Int.{to_z-of_z, to_z_pos}
use Rattle.std.specs.Option.{option_map}
use Rattle.batch.specs.Fields.{natural, cents}
use Rattle.batch.proofs.Digits.{natural_unwritten, unwritten_none}

-- what is computed of the value, where there is one
pub mapped_by : {X Y : Type 0} (g : X → Y) (o : Option X) (r : Option Y) → (o ≡ None → r ≡ None) → ((x : X) → o ≡ Some x → r ≡ Some (g x)) → r ≡ option_map g o
mapped_by g None r n s = n refl
mapped_by g (Some x) r n s = s x refl

pub cents_minus : (f : List ℕ) → 0 < length f → get_or f 0 0 ≡ 45 → cents f ≡ option_map (λ n. neg_ℤ (pos n)) (natural 1 1000000000000000 (take (length f - 1) (drop 1 f)))
unfolding cents
cents_minus [] h e = absurd (omega arith)
cents_minus (c ∷ cs) h e =
    ap (λ (t : Bool). cond t (option_map (λ n. neg_ℤ (pos n)) (natural 1 1000000000000000 cs)) (option_map pos (natural 0 1000000000000000 (c ∷ cs)))) (eq-eqb c 45 e)
    ∙ ap (λ l. option_map (λ n. neg_ℤ (pos n)) (natural 1 1000000000000000 l)) (sym (take_rest (c ∷ cs) 1))

pub cents_plain : (f : List ℕ) → (0 < length f → get_or f 0 0 ≡ 45 → ⊥) → cents f ≡ option_map pos (natural 0 1000000000000000 f)
unfolding cents
cents_plain [] n = sym (ap (option_map pos) (natural_unwritten 0 1000000000000000 [] (omega arith) (unwritten_none [] refl)))
cents_plain (c ∷ cs) n =
    ap (λ (t : Bool). cond t (option_map (λ n. neg_ℤ (pos n)) (natural 1 1000000000000000 cs)) (option_map pos (natural 0 1000000000000000 (c ∷ cs)))) (ne_eqb c 45 (n (omega arith)))

below_zero : (n : ℕ) → pos 0 -ℤ pos n ≡ neg_ℤ (pos n)
below_zero zero = refl
below_zero (suc n) =
    ap (λ (b : Bool). cond b (negsuc (suc n - 1)) (pos (0 - suc n))) (le-leb 1 (suc n) (omega arith)) ∙ ap negsuc (omega arith)

fits_below : (n : ℕ) → n ≤ 1000000000000000 → SFits w64 (neg_ℤ (pos n))
fits_below zero h = record { sfits = omega arith }
fits_below (suc n) h = record { sfits = omega arith }

pub minus_value : (n : ℕ) → n ≤ 1000000000000000 → to_z w64 (of_z w64 (pos 0 -ℤ to_z w64 n)) ≡ neg_ℤ (pos n)
minus_value n h =
    let e : to_z w64 n ≡ pos n = to_z_pos w64 n (omega arith) in
    ap (λ z. to_z w64 (of_z w64 (pos 0 -ℤ z))) e ∙ ap (λ z. to_z w64 (of_z w64 z)) (below_zero n) ∙ to_z-of_z w64 (neg_ℤ (pos n)) (fits_below n h)
