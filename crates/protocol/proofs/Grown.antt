-- What a journal says up to a place stays as it grows at its end.
use Rattle.std.proofs.Common.{◌≡◌, ℕ, zero, suc, ◌+◌, ◌<◌, ◌≤◌, Bool, true, false, cond, eqb, ◌⊎◌, List, [], ◌∷◌, ◌++◌, length, get_or, ℤ, pos, Some, None, Option, sym, refl, ap, ◌∙◌, subst, inl, inr, arith}
use mathlib.Core.Path.{fun_ext}
use Rattle.std.specs.List.{slice_get}
use Rattle.std.proofs.lemmas.Bool.{cases_eq, eq-eqb, ne_eqb, both_ways, or_parts}
use Rattle.std.proofs.lemmas.List.{length_push, get_or_push, get_or_append_left}
use Rattle.std.proofs.lemmas.Option.{slice_get-get_or}
use Rattle.journal.specs.Balances.{last_given, given_here, value_from}
use Rattle.journal.specs.Entries.{Posted}
use Rattle.journal.specs.Readings.{given_in, given_at, given_of}
use Rattle.journal.specs.declared.entry.Pair.{Pair}
use Rattle.posting.specs.Alone.{balances_after}
use Rattle.protocol.specs.Counting.{one}
use Rattle.protocol.specs.History.{no_entry, entry_at, Stands, entries_of, last_hand, touches}
use Rattle.protocol.proofs.Counts.{count_none, count_next, count_same, count_up}

pub nth_entry : (J : List Posted) (k : ℕ) → k < length J → slice_get J k ≡ Some (entry_at J k)
unfolding entry_at
nth_entry J k l = slice_get-get_or J k no_entry l

pub record Grows (J K : List Posted) : Type 0 where
  pub longer : length J ≤ length K
  pub same : (k : ℕ) → k < length J → entry_at K k ≡ entry_at J k

pub grows_not : (J : List Posted) → Grows J J
grows_not J = record { longer = omega arith; same = λ k l. refl }

pub grows_then : {I J K : List Posted} → Grows I J → Grows J K → Grows I K
grows_then {I} {J} {K} a b = record {
  longer = omega arith;
  same = λ k l. b.same k (omega arith) ∙ a.same k l;
}

pub grows_push : (J : List Posted) (e : Posted) → Grows J (J ++ (e ∷ []))
unfolding entry_at
grows_push J e = record {
  longer = omega (arith, length_push J e);
  same = λ k l. get_or_append_left J (e ∷ []) no_entry k l;
}

pub entry_push : (J : List Posted) (e : Posted) → entry_at (J ++ (e ∷ [])) (length J) ≡ e
unfolding entry_at
entry_push J e = get_or_push J e no_entry (length J) refl

pub entries_none : (J : List Posted) (h : ℕ) → entries_of J h 0 ≡ 0
unfolding entries_of
entries_none J h = count_none _

pub entries_next : (J : List Posted) (h k : ℕ) → entries_of J h (suc k) ≡ one (eqb (entry_at J k).house h) + entries_of J h k
unfolding entries_of
entries_next J h k = count_next _ k

pub entries_here : (J : List Posted) (h k : ℕ) → (entry_at J k).house ≡ h → entries_of J h (suc k) ≡ suc (entries_of J h k)
entries_here J h k e = omega (arith, entries_next J h k, ap one (eq-eqb (entry_at J k).house h e))

pub entries_else : (J : List Posted) (h k : ℕ) → ((entry_at J k).house ≡ h → ⊥) → entries_of J h (suc k) ≡ entries_of J h k
entries_else J h k e = omega (arith, entries_next J h k, ap one (ne_eqb (entry_at J k).house h e))

pub entries_up : (J : List Posted) (h j k : ℕ) → j ≤ k → entries_of J h j ≤ entries_of J h k
unfolding entries_of
entries_up J h j k l = count_up _ j k l

pub hand_here : (J : List Posted) (h k : ℕ) → (entry_at J k).house ≡ h → last_hand J h (suc k) ≡ (entry_at J k).hand
unfolding last_hand
hand_here J h k e = ap (λ b. cond b (entry_at J k).hand (last_hand J h k)) (eq-eqb (entry_at J k).house h e)

pub hand_else : (J : List Posted) (h k : ℕ) → ((entry_at J k).house ≡ h → ⊥) → last_hand J h (suc k) ≡ last_hand J h k
unfolding last_hand
hand_else J h k e = ap (λ b. cond b (entry_at J k).hand (last_hand J h k)) (ne_eqb (entry_at J k).house h e)

module _ {J K : List Posted} (g : Grows J K) where
  pub entries_same : (h k : ℕ) → k ≤ length J → entries_of K h k ≡ entries_of J h k
  unfolding entries_of
  entries_same h k l = count_same _ _ k (λ i m. ap (λ (e : Posted). eqb e.house h) (g.same i (omega arith)))

  pub hand_same : (h k : ℕ) → k ≤ length J → last_hand K h k ≡ last_hand J h k
  unfolding last_hand
  hand_same h zero l = refl
  hand_same h (suc k) l = rw (g.same k (omega arith), hand_same h k (omega arith))

  nth_same : (k : ℕ) → k < length J → slice_get K k ≡ slice_get J k
  nth_same k l = nth_entry K k (omega (arith, g.longer)) ∙ ap Some (g.same k l) ∙ sym (nth_entry J k l)

  given_same : (a k : ℕ) → k ≤ length J → last_given K a k ≡ last_given J a k
  given_same a zero l = refl
  given_same a (suc k) l =
      ap (λ (o : Option Posted). given_here k (given_of a o) (last_given K a k)) (nth_same k (omega arith))
      ∙ ap (given_here k (given_at J k a)) (given_same a k (omega arith))

  pub balances_same : (openings : List ℤ) (k : ℕ) → k ≤ length J → balances_after K openings k ≡ balances_after J openings k
  balances_same openings k l = fun_ext (λ a. ap (value_from (get_or openings a (pos 0))) (given_same a k l))

  pub stands_still : (k h n : ℕ) → Stands J k h n → Stands K k h n
  stands_still k h n x =
      (omega (arith, g.longer, x.0), ap (λ (e : Posted). e.house) (g.same k x.0) ∙ x.1, ap (λ (e : Posted). e.number) (g.same k x.0) ∙ x.2)

-- no entry of the house between j and k: the last hand is the same
pub hand_kept : (J : List Posted) (h j k : ℕ) → j ≤ k → entries_of J h j ≡ entries_of J h k → last_hand J h k ≡ last_hand J h j
hand_kept J h j zero l e = ap (last_hand J h) (the j l)
  where
    the : (x : ℕ) → x ≤ 0 → 0 ≡ x
    the x m = omega arith
hand_kept J h j (suc k) l e = go (λ m f. hand_kept J h j k m f) (cases_eq j (suc k)) (cases_eq (entry_at J k).house h)
  where
    go : (j ≤ k → entries_of J h j ≡ entries_of J h k → last_hand J h k ≡ last_hand J h j) → (j ≡ suc k) ⊎ (j ≡ suc k → ⊥)
        → ((entry_at J k).house ≡ h) ⊎ ((entry_at J k).house ≡ h → ⊥) → last_hand J h (suc k) ≡ last_hand J h j
    go ih (inl m) q = ap (last_hand J h) (sym m)
    go ih (inr m) (inl q) = absurd (omega (arith, entries_here J h k q, entries_up J h j k (omega arith)))
    go ih (inr m) (inr q) = hand_else J h k q ∙ ih (omega arith) (omega (arith, entries_else J h k q))

-- pairs that give none of the reads
untouched : (reads : List Bool) (ps : List Pair) (a : ℕ) → touches reads ps ≡ false → get_or reads a false ≡ true → given_in ps a ≡ None
untouched reads [] a t r = refl
untouched reads (p ∷ ps) a t r = go (λ q. untouched reads ps a q r) (cases_eq p.account a)
  where
    parts : (get_or reads p.account false ≡ false) × (touches reads ps ≡ false)
    parts = or_parts (get_or reads p.account false) (touches reads ps) t

    go : (touches reads ps ≡ false → given_in ps a ≡ None) → (p.account ≡ a) ⊎ (p.account ≡ a → ⊥)
        → cond (eqb p.account a) (Some p.value) (given_in ps a) ≡ None
    go ih (inl e) = absurd (both_ways (get_or reads a false) (subst (λ (x : ℕ). get_or reads x false ≡ false) e parts.0) r)
    go ih (inr e) = ap (λ b. cond b (Some p.value) (given_in ps a)) (ne_eqb p.account a e) ∙ ih parts.1

-- an entry that gives none of the reads leaves the balances that were read
pub balance_past : (J : List Posted) (openings : List ℤ) (reads : List Bool) (k : ℕ) → k < length J
    → touches reads (entry_at J k).pairs ≡ false → (a : ℕ) → get_or reads a false ≡ true
    → balances_after J openings k a ≡ balances_after J openings (suc k) a
balance_past J openings reads k l t a r =
    ap (λ (o : Option ℤ). value_from (get_or openings a (pos 0)) (given_here k o (last_given J a k))) (sym none)
  where
    none : given_at J k a ≡ None
    none = ap (given_of a) (nth_entry J k l) ∙ untouched reads (entry_at J k).pairs a t r
