-- Leaves in use, with one more of them, and as a closed book.
use Rattle.std.proofs.Common.{Some, None, Ok, Err, Option, Result, ◌≡◌, ℕ, suc, ◌+◌, ◌*◌, ◌/◌, ◌<◌, ◌≤◌, List, [], ◌∷◌, ◌++◌, length, get_or, take, drop, sym, ap, ◌∙◌, subst, add-one, arith, below_more}
use Rattle.std.proofs.lemmas.List.{append_assoc, length-append, length-take-le, length-drop, take-append-drop, take-append-le, drop-append-le, take_at, drop_at}
use Rattle.std.specs.List.{HoldsAt, AllWithin}
use Rattle.std.specs.Simd.{first_chunks}
use Rattle.journal.specs.Entries.{Posted, posted, Lawful, IsEntry}
use Rattle.leaves.specs.Leaf.{entry_on, leaf_of, IsLeaf, IsLeafOfItsEntry}
use Rattle.leaves.specs.Pages.{leaf_at, leaf_put, entries_on, LeavesOfEntries, WholeBook, GoodBook, BookChecked}
use Rattle.leaves.specs.declared.book_check.BookRefusal.{BookRefusal}
use Rattle.leaves.specs.declared.book_check.BookRefusal.TheVariants.{BrokenLeaf}
use Rattle.std.specs.Option.{MatchOption}
use Rattle.journal.specs.declared.entry.Entry.{Entry}
use Rattle.leaves.proofs.PageEntries.{entries_front, entries_last, length_leaves, nth_leaf}
use Rattle.leaves.proofs.RoundTrip.{reads_back, length_leaf}
use Rattle.leaves.proofs.LeafTest.{own_leaf, leaf_of_own}

pub length_put : (bs leaf : List ℕ) (n : ℕ) → length leaf ≡ 160 → 160 * n + 160 ≤ length bs → length (leaf_put bs n leaf) ≡ length bs
length_put bs leaf n ll room =
    let front = length-take-le (160 * n) bs (omega arith) in
    let back = length-drop (160 * n + 160) bs in
    let one = length-append leaf (drop (160 * n + 160) bs) in
    length-append (take (160 * n) bs) (leaf ++ drop (160 * n + 160) bs) ∙ omega arith

-- one leaf more: the entries before it stay, and its entry comes last
pub entries_put : (bs leaf : List ℕ) (n : ℕ) (e : Entry) → 160 * n + 160 ≤ length bs → leaf ≡ leaf_of (posted e) → IsEntry e → entries_on (n + 1) (leaf_put bs n leaf) ≡ entries_on n bs ++ posted e ∷ []
entries_put bs leaf n e room is ok =
    let front = take (160 * n) bs in
    let rest = drop (160 * n + 160) bs in
    let fl : length front ≡ 160 * n = length-take-le (160 * n) bs (omega arith) in
    let ll : length leaf ≡ 160 = ap length is ∙ length_leaf (posted e) ok.lawful.few in
    let both = length-append front leaf in
    ap (λ (j : ℕ). entries_on j (leaf_put bs n leaf)) (add-one n)
    ∙ ap (entries_on (suc n)) (sym (append_assoc front leaf rest))
    ∙ entries_front (suc n) (front ++ leaf) rest (omega arith)
    ∙ entries_last n front leaf fl ll
    ∙ ap (λ (es : List Posted). es ++ entry_on leaf ∷ []) (sym (entries_front n front (drop (160 * n) bs) (omega arith)) ∙ ap (entries_on n) (take-append-drop (160 * n) bs))
    ∙ ap (λ (x : Posted). entries_on n bs ++ x ∷ []) (ap entry_on is ∙ reads_back (posted e) ok.lawful)

-- a leaf that lies in a front of the bytes
pub leaf_front : (xs ys : List ℕ) (k : ℕ) → 160 * k + 160 ≤ length xs → leaf_at (xs ++ ys) k ≡ leaf_at xs k
leaf_front xs ys k h =
    ap (take 160) (drop-append-le (160 * k) xs ys (omega arith))
    ∙ take-append-le 160 (drop (160 * k) xs) ys (simp length-drop (omega arith))

-- a leaf of a front is the leaf of the whole
pub leaf_take : (bs : List ℕ) (n k : ℕ) → n ≤ length bs → 160 * k + 160 ≤ n → leaf_at (take n bs) k ≡ leaf_at bs k
leaf_take bs n k h w =
    let long = length-take-le n bs h in
    sym (leaf_front (take n bs) (drop n bs) k (omega arith)) ∙ ap (λ (xs : List ℕ). leaf_at xs k) (take-append-drop n bs)

-- the others stay
pub leaf_below : (bs leaf : List ℕ) (n k : ℕ) → 160 * n ≤ length bs → k < n → leaf_at (leaf_put bs n leaf) k ≡ leaf_at bs k
leaf_below bs leaf n k h lt =
    let long = length-take-le (160 * n) bs h in
    leaf_front (take (160 * n) bs) (leaf ++ drop (160 * n + 160) bs) k (omega arith) ∙ leaf_take bs (160 * n) k h (omega arith)

pub leaf_same : (bs leaf : List ℕ) (n : ℕ) → 160 * n ≤ length bs → length leaf ≡ 160 → leaf_at (leaf_put bs n leaf) n ≡ leaf
leaf_same bs leaf n h ll =
    let long = length-take-le (160 * n) bs h in
    let rest = drop (160 * n + 160) bs in
    ap (take 160) (drop_at (take (160 * n) bs) (leaf ++ rest) (160 * n) long) ∙ take_at leaf rest 160 ll

-- the leaves in use are a closed book of the same entries
pub front_entries : (bs : List ℕ) (n : ℕ) → 160 * n ≤ length bs → entries_on (length (take (160 * n) bs) / 160) (take (160 * n) bs) ≡ entries_on n bs
front_entries bs n h =
    let long = length-take-le (160 * n) bs h in
    let count : length (take (160 * n) bs) / 160 ≡ n = omega arith in
    ap (λ (k : ℕ). entries_on k (take (160 * n) bs)) count
    ∙ sym (entries_front n (take (160 * n) bs) (drop (160 * n) bs) (omega arith))
    ∙ ap (entries_on n) (take-append-drop (160 * n) bs)

pub front_good : (bs : List ℕ) (n : ℕ) → 160 * n ≤ length bs → n ≤ 4096 → LeavesOfEntries n bs → GoodBook (take (160 * n) bs)
front_good bs n h few good =
    let long = length-take-le (160 * n) bs h in
    record {
      whole = (omega arith, omega arith);
      leaves = λ k l. subst IsLeaf (sym (leaf_take bs (160 * n) k h (omega arith))) (leaf_of_own (leaf_at bs k) (good k (omega arith)));
    }

-- with one leaf more, each is the leaf of its entry still
pub more_good : (bs leaf : List ℕ) (n : ℕ) (e : Posted) → 160 * n ≤ length bs → length leaf ≡ 160 → leaf ≡ leaf_of e → Lawful e → LeavesOfEntries n bs → LeavesOfEntries (n + 1) (leaf_put bs n leaf)
more_good bs leaf n e h ll is ok good k lt =
    below_more (λ (j : ℕ). IsLeafOfItsEntry (leaf_at (leaf_put bs n leaf) j)) n
    (λ j l. subst IsLeafOfItsEntry (sym (leaf_below bs leaf n j h l)) (good j l))
    (subst IsLeafOfItsEntry (sym (leaf_same bs leaf n h ll)) (own_leaf leaf (e, ok, is))) k lt

leaf_is : (bs : List ℕ) (ls : List (List ℕ)) (n : ℕ) → ls ≡ first_chunks 160 n bs → (k : ℕ) → k < n → get_or ls k [] ≡ leaf_at bs k
leaf_is bs ls n is k h = ap (λ (xs : List (List ℕ)). get_or xs k []) is ∙ nth_leaf n k bs [] h

-- where every leaf is one, and where the first is not
pub all_leaves : (bs : List ℕ) (ls : List (List ℕ)) (n : ℕ) → ls ≡ first_chunks 160 n bs → AllWithin IsLeaf ls 0 (length ls) → (k : ℕ) → k < n → IsLeaf (leaf_at bs k)
all_leaves bs ls n is all k h = subst IsLeaf (leaf_is bs ls n is k h) (all k [] (omega arith) (omega (arith, ap (λ (xs : List (List ℕ)). length xs) is, length_leaves n bs)))

pub first_broken :
    (bs : List ℕ) (ls : List (List ℕ)) (n k : ℕ) → ls ≡ first_chunks 160 n bs
    → (k < length ls) × HoldsAt (λ leaf. IsLeaf leaf → ⊥) ls k × AllWithin IsLeaf ls 0 k
    → (k < n) × (IsLeaf (leaf_at bs k) → ⊥) × ((j : ℕ) → j < k → IsLeaf (leaf_at bs j))
first_broken bs ls n k is (within, broken, before) =
    let h : k < n = omega (arith, within, ap (λ (xs : List (List ℕ)). length xs) is, length_leaves n bs) in
    (h, subst (λ (leaf : List ℕ). IsLeaf leaf → ⊥) (leaf_is bs ls n is k h) (broken []), λ j lt. subst IsLeaf (leaf_is bs ls n is j (omega (arith, lt, h))) (before j [] (omega arith) lt))

-- what the check answers for the place of the first broken leaf, if there is one
abbrev pub broken_at : Option ℕ → Result (Unit {0}) BookRefusal
broken_at None = Ok tt
broken_at (Some k) = Err (BrokenLeaf k)

pub checked_book :
    (bs : List ℕ) (ls : List (List ℕ)) (o : Option ℕ) → WholeBook bs → ls ≡ first_chunks 160 (length bs / 160) bs
    → MatchOption o (AllWithin IsLeaf ls 0 (length ls)) (λ k. (k < length ls) × HoldsAt (λ leaf. IsLeaf leaf → ⊥) ls k × AllWithin IsLeaf ls 0 k)
    → BookChecked bs (broken_at o)
checked_book bs ls None whole is all = record { whole = whole; leaves = all_leaves bs ls (length bs / 160) is all }
checked_book bs ls (Some k) whole is broken =
    let first = first_broken bs ls (length bs / 160) k is broken in
    (whole, first.0, first.1, first.2)
