-- The bytes of a leaf as they are written, part by part.
use Rattle.std.proofs.Common.{◌≡◌, ℕ, zero, suc, ◌+◌, ◌-◌, ◌*◌, ◌≤◌, ◌<◌, Bool, true, false, List, [], ◌∷◌, ◌++◌, length, cond, take, drop, set, map, replicate, sym, refl, ap, ◌∙◌, arith}
use Rattle.std.proofs.Math.Seq.{set-append_seam}
use mir.Val.{bool_byte}
use borrow.Rule.Slice.PartMut.{put_mid}
use Rattle.std.specs.List.{flat_map}
use Rattle.std.proofs.lemmas.List.{append_assoc, append-nil, length-append, take_at, drop_at, length-map, length-take-le, map_more, replicate-append-replicate}
use Rattle.std.proofs.lemmas.List.Folds.{flat_map-map}
use Rattle.std.proofs.lemmas.Grind.{flat_map-append}
use Rattle.journal.specs.Entries.{Posted, pair_at}
use Rattle.leaves.specs.Leaf.{bytes32, signed_bytes, padded, account_bytes, value_bytes, head_of, leaf_of}
use Rattle.journal.specs.declared.entry.Pair.{Pair}
use Rattle.leaves.proofs.RoundTrip.{accounts_whole, length_values}

-- a part written right after a front: the front stays, and so does what lies past the part
pub put_next : (front rest part : List ℕ) (a k : ℕ) → length front ≡ a → put_mid a k (front ++ rest) part ≡ (front ++ part) ++ drop k rest
put_next front rest part a k la =
    ap (λ (f : List ℕ). f ++ (part ++ drop k (drop a (front ++ rest)))) (take_at front rest a la)
    ∙ ap (λ (r : List ℕ). front ++ (part ++ drop k r)) (drop_at front rest a la)
    ∙ sym (append_assoc front part (drop k rest))

mark_is : (b : Bool) → bool_byte b ≡ cond b 1 0
mark_is true = refl
mark_is false = refl

-- the head, written into zeros part by part
head_written :
    (e : Posted) (v k : ℕ) (nb hb : List ℕ) → v ≡ cond e.void 1 0 → k ≡ length e.pairs → nb ≡ bytes32 e.number → hb ≡ signed_bytes e.hand
    → put_mid 8 8 (put_mid 4 4 (set (set (set (replicate 160 0) 0 e.house) 1 v) 2 k) nb) hb ≡ head_of e ++ replicate 144 0
head_written e v k nb hb ev ek en eh = simp (ev, ek, en, eh)

-- the parts make the leaf
pub leaf_written :
    (e : Posted) (v : ℕ) (nb hb : List ℕ) (ps : List Pair) (accounts values : List ℕ)
    → v ≡ bool_byte e.void → nb ≡ bytes32 e.number → hb ≡ signed_bytes e.hand → ps ≡ e.pairs → length ps ≤ 16
    → accounts ≡ padded 16 (account_bytes ps) → values ≡ padded 128 (value_bytes ps)
    → put_mid 32 128 (put_mid 16 16 (put_mid 8 8 (put_mid 4 4 (set (set (set (replicate 160 0) 0 e.house) 1 v) 2 (length ps)) nb) hb) accounts) values ≡ leaf_of e
leaf_written e v nb hb ps accounts values ev en eh is few ea es =
    let la : length accounts ≡ 16 = ap (λ (xs : List ℕ). length xs) ea ∙ accounts_whole ps few in
    let both : length (head_of e ++ accounts) ≡ 32 = length-append (head_of e) accounts ∙ omega (arith, la) in
    ap (λ (xs : List ℕ). put_mid 32 128 (put_mid 16 16 xs accounts) values) (head_written e v (length ps) nb hb (ev ∙ mark_is e.void) (ap (λ (qs : List Pair). length qs) is) en eh)
    ∙ ap (λ (xs : List ℕ). put_mid 32 128 xs values) (put_next (head_of e) (replicate 144 0) accounts 16 16 refl)
    ∙ put_next (head_of e ++ accounts) (replicate 128 0) values 32 128 both
    ∙ append-nil ((head_of e ++ accounts) ++ values)
    ∙ append_assoc (head_of e) accounts values
    ∙ ap (λ (xs : List ℕ). head_of e ++ (xs ++ values)) ea
    ∙ ap (λ (xs : List ℕ). head_of e ++ (padded 16 (account_bytes ps) ++ xs)) es
    ∙ ap (λ (qs : List Pair). head_of e ++ (padded 16 (account_bytes qs) ++ padded 128 (value_bytes qs))) is

-- sixteen places that hold what is told of each pair, and then padding
abbrev pub filled : {X : Type 0} → (Pair → X) → X → List Pair → List X
filled f pad ps = map f ps ++ replicate (16 - length ps) pad

-- one place more is filled
pub filled_more : {X : Type 0} (f : Pair → X) (pad : X) (ps : List Pair) (j : ℕ) (x : X) → j < length ps → length ps ≤ 16 → x ≡ f (pair_at ps j) → set (filled f pad (take j ps)) j x ≡ filled f pad (take (j + 1) ps)
filled_more {X} f pad ps j x lt few is =
    let front = map f (take j ps) in
    let count : length (take j ps) ≡ j = length-take-le j ps (omega arith) in
    let next : length (take (j + 1) ps) ≡ j + 1 = length-take-le (j + 1) ps (omega arith) in
    let one : 16 - length (take j ps) ≡ suc (16 - length (take (j + 1) ps)) = omega (arith, count, next) in
    let rest = replicate (16 - length (take (j + 1) ps)) pad in
    let place : j ≡ length front = sym (length-map (take j ps) f ∙ count) in
    ap (λ (k : ℕ). set (front ++ replicate k pad) j x) one
    ∙ ap (λ (k : ℕ). set (front ++ pad ∷ rest) k x) place
    ∙ set-append_seam front pad rest x
    ∙ ap (λ (y : X). front ++ y ∷ rest) is
    ∙ sym (append_assoc front (f (pair_at ps j) ∷ []) rest)
    ∙ ap (λ (xs : List X). xs ++ rest) (sym (map_more f ps j _ lt))

pub filled_accounts : (ps : List Pair) → filled (λ (p : Pair). p.account) 0 ps ≡ padded 16 (account_bytes ps)
filled_accounts ps = ap (λ (n : ℕ). account_bytes ps ++ replicate (16 - n) 0) (sym (length-map ps (λ (p : Pair). p.account)))

zeros : (n : ℕ) → flat_map (λ (bs : List ℕ). bs) (replicate n (replicate 8 0)) ≡ replicate (8 * n) 0
zeros zero = refl
zeros (suc n) =
    let more : 8 + 8 * n ≡ 8 * suc n = omega arith in
    ap (λ (xs : List ℕ). replicate 8 0 ++ xs) (zeros n) ∙ replicate-append-replicate 8 (8 * n) 0 ∙ ap (λ (m : ℕ). replicate {A = ℕ} m 0) more

pub filled_values :
    (ps : List Pair) → length ps ≤ 16 → flat_map (λ (bs : List ℕ). bs) (filled (λ (p : Pair). signed_bytes p.value) (replicate 8 0) ps) ≡ padded 128 (value_bytes ps)
filled_values ps few =
    let f : Pair → List ℕ = λ p. signed_bytes p.value in
    let rest : 8 * (16 - length ps) ≡ 128 - length (value_bytes ps) = omega (arith, length_values ps) in
    flat_map-append (λ (bs : List ℕ). bs) (map f ps) (replicate (16 - length ps) (replicate 8 0))
    ∙ ap (λ (xs : List ℕ). xs ++ flat_map (λ (bs : List ℕ). bs) (replicate (16 - length ps) (replicate 8 0))) (flat_map-map (λ (bs : List ℕ). bs) f ps)
    ∙ ap (λ (xs : List ℕ). value_bytes ps ++ xs) (zeros (16 - length ps) ∙ ap (λ (m : ℕ). replicate m 0) rest)
