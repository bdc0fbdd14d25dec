-- The entries of leaves, place by place.
use Rattle.std.proofs.Common.{◌≡◌, ℕ, zero, suc, ◌*◌, ◌<◌, ◌≤◌, List, [], ◌∷◌, ◌++◌, length, get_or, map, take, drop, ltb-true, ltb-false, Some, None, Option, Bor, sym, refl, ap, ◌∙◌, le_of_suc-le-suc, not-suc-le-zero, arith}
use Rattle.std.specs.Option.{option_map}
use Rattle.std.specs.List.{slice_get}
use Rattle.std.specs.Slice.{IsItemAt}
use Rattle.std.specs.Simd.{first_chunks}
use Rattle.std.proofs.lemmas.List.{drop-drop, take-append-le, drop-append-le, take_all, length-drop, nil_from_length}
use Rattle.std.proofs.lemmas.Option.{slice_get-map, slice_get_read, slice_get_past}
use Rattle.journal.specs.Entries.{Posted}
use Rattle.leaves.specs.Leaf.{entry_on}
use Rattle.leaves.specs.Pages.{leaf_at, entries_on}

pub length_entries : (n : ℕ) (bs : List ℕ) → length (entries_on n bs) ≡ n
length_entries zero bs = refl
length_entries (suc n) bs = ap suc (length_entries n (drop 160 bs))

nth_entries : (n k : ℕ) (bs : List ℕ) → k < n → slice_get (entries_on n bs) k ≡ Some (entry_on (leaf_at bs k))
nth_entries zero k bs h = absurd (not-suc-le-zero h)
nth_entries (suc n) zero bs h = refl
nth_entries (suc n) (suc k) bs h =
    nth_entries n k (drop 160 bs) (le_of_suc-le-suc h)
    ∙ ap (λ (cs : List ℕ). Some (entry_on (take 160 cs))) (drop-drop (160 * k) 160 bs ∙ ap (λ (m : ℕ). drop m bs) (omega arith))

-- the entry on a leaf in use
pub on_leaf : (n k : ℕ) (bs leaf : List ℕ) → k < n → leaf ≡ leaf_at bs k → Some (entry_on leaf) ≡ slice_get (entries_on n bs) k
on_leaf n k bs leaf h e = ap (λ (x : List ℕ). Some (entry_on x)) e ∙ sym (nth_entries n k bs h)

-- what lies past the leaves does not matter
pub entries_front : (n : ℕ) (xs ys : List ℕ) → 160 * n ≤ length xs → entries_on n (xs ++ ys) ≡ entries_on n xs
entries_front zero xs ys h = refl
entries_front (suc n) xs ys h =
    let w : 160 ≤ length xs = omega arith in
    let rest = entries_front n (drop 160 xs) ys (simp length-drop (omega arith)) in
    ap (λ (cs : List ℕ). entry_on cs ∷ entries_on n (drop 160 (xs ++ ys))) (take-append-le 160 xs ys w)
    ∙ ap (λ (cs : List ℕ). entry_on (take 160 xs) ∷ entries_on n cs) (drop-append-le 160 xs ys w)
    ∙ ap (λ (es : List Posted). entry_on (take 160 xs) ∷ es) rest

-- one leaf more
pub entries_last : (n : ℕ) (xs leaf : List ℕ) → length xs ≡ 160 * n → length leaf ≡ 160 → entries_on (suc n) (xs ++ leaf) ≡ entries_on n xs ++ entry_on leaf ∷ []
entries_last zero xs leaf h l =
    ap (λ (cs : List ℕ). entry_on (take 160 (cs ++ leaf)) ∷ []) (nil_from_length xs h)
    ∙ ap (λ (cs : List ℕ). entry_on cs ∷ []) (take_all 160 leaf (omega arith))
entries_last (suc n) xs leaf h l =
    let w : 160 ≤ length xs = omega arith in
    let rest = entries_last n (drop 160 xs) leaf (simp length-drop (omega arith)) l in
    ap (λ (cs : List ℕ). entry_on cs ∷ entries_on (suc n) (drop 160 (xs ++ leaf))) (take-append-le 160 xs leaf w)
    ∙ ap (λ (cs : List ℕ). entry_on (take 160 xs) ∷ entries_on (suc n) cs) (drop-append-le 160 xs leaf w)
    ∙ ap (λ (es : List Posted). entry_on (take 160 xs) ∷ es) rest

-- where an entry stands, there is a leaf in use
pub nth_within : (n k : ℕ) (bs : List ℕ) (e : Posted) → slice_get (entries_on n bs) k ≡ Some e → k < n
nth_within zero k bs e h = absurd (let z : ◌≡◌ {A = ℕ} 0 1 = cc in omega arith)
nth_within (suc n) zero bs e h = omega arith
nth_within (suc n) (suc k) bs e h = omega (arith, nth_within n k (drop 160 bs) e h)

-- the leaves one after the other
pub take_leaves : (m n : ℕ) (bs : List ℕ) → m ≤ n → take m (first_chunks 160 n bs) ≡ first_chunks 160 m bs
take_leaves zero n bs h = refl
take_leaves (suc m) zero bs h = absurd (not-suc-le-zero h)
take_leaves (suc m) (suc n) bs h = ap (λ (ls : List (List ℕ)). take 160 bs ∷ ls) (take_leaves m n (drop 160 bs) (le_of_suc-le-suc h))

pub entries_of_leaves : (n : ℕ) (bs : List ℕ) → map entry_on (first_chunks 160 n bs) ≡ entries_on n bs
entries_of_leaves zero bs = refl
entries_of_leaves (suc n) bs = ap (λ (es : List Posted). entry_on (take 160 bs) ∷ es) (entries_of_leaves n (drop 160 bs))

pub length_leaves : (n : ℕ) (bs : List ℕ) → length (first_chunks 160 n bs) ≡ n
length_leaves zero bs = refl
length_leaves (suc n) bs = ap suc (length_leaves n (drop 160 bs))

-- leaf k of them
pub nth_leaf : (n k : ℕ) (bs d : List ℕ) → k < n → get_or (first_chunks 160 n bs) k d ≡ leaf_at bs k
nth_leaf zero k bs d h = absurd (not-suc-le-zero h)
nth_leaf (suc n) zero bs d h = refl
nth_leaf (suc n) (suc k) bs d h =
    nth_leaf n k (drop 160 bs) d (le_of_suc-le-suc h) ∙ ap (take 160) (drop-drop (160 * k) 160 bs ∙ ap (λ (m : ℕ). drop m bs) (omega arith))

-- the entry on a leaf that was picked out, if there is one
pub entry_picked : (ls : List (List ℕ)) (k : ℕ) (r : Option (Bor (List ℕ))) → IsItemAt ls k r → option_map (λ leaf. entry_on leaf.now) r ≡ slice_get (map entry_on ls) k
entry_picked ls k None h = sym (slice_get-map entry_on ls k ∙ ap (option_map entry_on) (slice_get_past ls k (ltb-false k (length ls) (sym h.0))))
entry_picked ls k (Some leaf) h =
    sym (slice_get-map entry_on ls k ∙ ap (option_map entry_on) (slice_get_read ls (length ls) k leaf.now refl (ltb-true k (length ls) (sym h.0)) h.1))
