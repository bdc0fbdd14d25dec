-- The pairs on a leaf, one after the other.
use Rattle.std.proofs.Common.{◌≡◌, ℕ, zero, suc, ◌+◌, ◌*◌, ◌<◌, ◌≤◌, min, Bool, true, false, cond, eqb, List, ◌∷◌, length, get_or, take, drop, ltb, ltb-true, ltb-false, Some, None, Option, sym, refl, ap, ◌∙◌, le_of_suc-le-suc, not-suc-le-zero, arith}
use Rattle.std.specs.List.{slice_get, HoldsAt, AllWithin}
use Rattle.std.proofs.lemmas.List.{get_or-drop, get_or-take, length-take-le, length-drop, drop-drop, same_lists}
use Rattle.std.specs.Option.{is_some, option_map, MatchOption, IfSome}
use Rattle.std.proofs.lemmas.Option.{slice_get_past, get_or_from_slice_get}
use Rattle.journal.specs.Readings.{given_in}
use Rattle.leaves.specs.Leaf.{signed_of, pairs_on}
use Rattle.journal.specs.declared.entry.Pair.{Pair}

abbrev first : List ℕ → List ℕ → Pair
first ks vs = record { account = get_or ks 0 0; value = signed_of vs }

-- the pair at a place
abbrev pub pair_on : List ℕ → ℕ → Pair
pair_on bs j = record { account = get_or bs (16 + j) 0; value = signed_of (drop (32 + 8 * j) bs) }

pub take_pairs : (c n : ℕ) (ks vs : List ℕ) → take c (pairs_on n ks vs) ≡ pairs_on (min c n) ks vs
take_pairs zero n ks vs = ap (λ (k : ℕ). pairs_on k ks vs) {x = 0} {y = min 0 n} (omega arith)
take_pairs (suc c) zero ks vs = ap (λ (k : ℕ). pairs_on k ks vs) {x = 0} {y = min (suc c) 0} (omega arith)
take_pairs (suc c) (suc n) ks vs =
    ap (λ (ps : List Pair). first ks vs ∷ ps) (take_pairs c n (drop 1 ks) (drop 8 vs))
    ∙ ap (λ (k : ℕ). pairs_on k ks vs) {x = suc (min c n)} {y = min (suc c) (suc n)} (omega arith)

pub length_pairs : (n : ℕ) (ks vs : List ℕ) → length (pairs_on n ks vs) ≡ n
length_pairs zero ks vs = refl
length_pairs (suc n) ks vs = ap suc (length_pairs n (drop 1 ks) (drop 8 vs))

-- the pair that stands at place j
pub nth_pairs : (n j : ℕ) (bs : List ℕ) → j < n → slice_get (pairs_on n (drop 16 bs) (drop 32 bs)) j ≡ Some (pair_on bs j)
nth_pairs n j bs h =
    go n j (drop 16 bs) (drop 32 bs) h
    ∙ ap (λ (a : ℕ). Some record { account = a; value = signed_of (drop (8 * j) (drop 32 bs)) }) (get_or-drop 16 bs j 0)
    ∙ ap (λ (xs : List ℕ). Some record { account = get_or bs (16 + j) 0; value = signed_of xs }) (drop-drop (8 * j) 32 bs) where
      go : (n j : ℕ) (ks vs : List ℕ) → j < n → slice_get (pairs_on n ks vs) j ≡ Some record { account = get_or ks j 0; value = signed_of (drop (8 * j) vs) }
      go zero j ks vs h = absurd (not-suc-le-zero h)
      go (suc n) zero ks vs h = refl
      go (suc n) (suc j) ks vs h =
          go n j (drop 1 ks) (drop 8 vs) (le_of_suc-le-suc h)
          ∙ ap (λ (a : ℕ). Some record { account = a; value = signed_of (drop (8 * j) (drop 8 vs)) }) (get_or-drop 1 ks j 0 ∙ ap (λ (i : ℕ). get_or ks i 0) (omega arith))
          ∙ ap (λ (xs : List ℕ). Some record { account = get_or ks (suc j) 0; value = signed_of xs }) (drop-drop (8 * j) 8 vs ∙ ap (λ (i : ℕ). drop i vs) (omega arith))

-- the value in the first pair with the account, whose place is known
pub given_here :
    (n j a : ℕ) (ks vs : List ℕ) → j < n → eqb (get_or ks j 0) a ≡ true → ((k : ℕ) → k < j → eqb (get_or ks k 0) a ≡ false)
    → given_in (pairs_on n ks vs) a ≡ Some (signed_of (drop (8 * j) vs))
given_here zero j a ks vs h here before = absurd (not-suc-le-zero h)
given_here (suc n) zero a ks vs h here before = ap (λ (b : Bool). cond b (Some (signed_of vs)) (given_in (pairs_on n (drop 1 ks) (drop 8 vs)) a)) here
given_here (suc n) (suc j) a ks vs h here before =
    ap (λ (b : Bool). cond b (Some (signed_of vs)) (given_in (pairs_on n (drop 1 ks) (drop 8 vs)) a)) (before 0 (omega arith))
    ∙ given_here n j a (drop 1 ks) (drop 8 vs) (le_of_suc-le-suc h)
    (ap (λ (x : ℕ). eqb x a) (next ks j) ∙ here)
    (λ k lt. ap (λ (x : ℕ). eqb x a) (next ks k) ∙ before (suc k) (omega arith))
    ∙ ap (λ (xs : List ℕ). Some (signed_of xs)) (drop-drop (8 * j) 8 vs ∙ ap (λ (i : ℕ). drop i vs) (omega arith)) where
      next : (ks : List ℕ) (k : ℕ) → get_or (drop 1 ks) k 0 ≡ get_or ks (suc k) 0
      next ks k = get_or-drop 1 ks k 0 ∙ ap (λ (i : ℕ). get_or ks i 0) (omega arith)

pub given_nowhere : (n a : ℕ) (ks vs : List ℕ) → ((k : ℕ) → k < n → eqb (get_or ks k 0) a ≡ false) → given_in (pairs_on n ks vs) a ≡ None
given_nowhere zero a ks vs none = refl
given_nowhere (suc n) a ks vs none =
    ap (λ (b : Bool). cond b (Some (signed_of vs)) (given_in (pairs_on n (drop 1 ks) (drop 8 vs)) a)) (none 0 (omega arith))
    ∙ given_nowhere n a (drop 1 ks) (drop 8 vs)
    (λ k lt. ap (λ (x : ℕ). eqb x a) (get_or-drop 1 ks k 0 ∙ ap (λ (i : ℕ). get_or ks i 0) (omega arith)) ∙ none (suc k) (omega arith))

long : (bs xs : List ℕ) (n : ℕ) → 16 + n ≤ length bs → xs ≡ take n (drop 16 bs) → length xs ≡ n
long bs xs n room is = ap (λ (ys : List ℕ). length ys) is ∙ length-take-le n (drop 16 bs) (omega (arith, length-drop 16 bs))

account_of : (bs xs : List ℕ) (n k : ℕ) → xs ≡ take n (drop 16 bs) → k < n → get_or xs k 0 ≡ get_or (drop 16 bs) k 0
account_of bs xs n k is lt = ap (λ (ys : List ℕ). get_or ys k 0) is ∙ get_or-take n (drop 16 bs) k 0 lt

-- the value beside the first account that is the one asked for
pub given_first :
    (bs xs : List ℕ) (n a : ℕ) (o : Option ℕ) → 16 + n ≤ length bs → xs ≡ take n (drop 16 bs)
    → MatchOption o (AllWithin (λ x. eqb x a ≡ false) xs 0 (length xs)) (λ j. (j < length xs) × HoldsAt (λ x. eqb x a ≡ true) xs j × AllWithin (λ x. eqb x a ≡ false) xs 0 j)
    → option_map (λ j. signed_of (drop (32 + 8 * j) bs)) o ≡ given_in (pairs_on n (drop 16 bs) (drop 32 bs)) a
given_first bs xs n a None room is first =
    sym (given_nowhere n a (drop 16 bs) (drop 32 bs) (λ k lt. ap (λ (x : ℕ). eqb x a) (sym (account_of bs xs n k is lt)) ∙ first k 0 (omega arith) (omega (arith, long bs xs n room is))))
given_first bs xs n a (Some j) room is (within, here, before) =
    let h : j < n = omega (arith, long bs xs n room is) in
    ap (λ (ys : List ℕ). Some (signed_of ys)) (sym (drop-drop (8 * j) 32 bs))
    ∙ sym (given_here n j a (drop 16 bs) (drop 32 bs) h
    (ap (λ (x : ℕ). eqb x a) (sym (account_of bs xs n j is h)) ∙ here 0)
    (λ k lt. ap (λ (x : ℕ). eqb x a) (sym (account_of bs xs n k is (omega (arith, lt, h)))) ∙ before k 0 (omega arith) lt))

-- pairs that are read from their places, one by one
pub pairs_read : (bs : List ℕ) (n : ℕ) (ps : List Pair) → length ps ≡ n → ((j : ℕ) (d : Pair) → j < n → get_or ps j d ≡ pair_on bs j) → ps ≡ pairs_on n (drop 16 bs) (drop 32 bs)
pairs_read bs n ps l each =
    same_lists ps (pairs_on n (drop 16 bs) (drop 32 bs)) (l ∙ sym (length_pairs n (drop 16 bs) (drop 32 bs)))
    (λ j d lt.
    let h : j < n = omega (arith, l) in
    each j d h ∙ sym (get_or_from_slice_get (pairs_on n (drop 16 bs) (drop 32 bs)) j (pair_on bs j) d (nth_pairs n j bs h)))

-- a pair that is there if its place is one of the first n
pub pair_if : (bs : List ℕ) (n j : ℕ) (o : Option Pair) → is_some o ≡ ltb j n → IfSome o (λ p. p ≡ pair_on bs j) → o ≡ slice_get (pairs_on n (drop 16 bs) (drop 32 bs)) j
pair_if bs n j None is h =
    sym (slice_get_past (pairs_on n (drop 16 bs) (drop 32 bs)) j (omega (arith, length_pairs n (drop 16 bs) (drop 32 bs), ltb-false j n (sym is))))
pair_if bs n j (Some p) is h = ap Some h ∙ sym (nth_pairs n j bs (ltb-true j n (sym is)))
