-- An entry reads back from its leaf, and a leaf is written back as it was.
use Rattle.std.proofs.Common.{◌≡◌, ℕ, suc, ◌-◌, ◌*◌, ◌^◌, ◌<◌, ◌≤◌, min, Bool, true, false, cond, eqb, List, [], ◌∷◌, ◌++◌, length, drop, replicate, ℤ, pos, negsuc, sym, refl, ap, ◌∙◌, arith, w64, SFits, to_z, of_z}
use mir.ValLaws.{of_z_fits}
use Rattle.std.proofs.lemmas.List.{length-append, length-replicate, length-map, drop_at, append_assoc}
use Rattle.std.proofs.lemmas.Int.{to_z-of_z}
use Rattle.journal.specs.Entries.{Posted, InRange, pair_at}
use Rattle.leaves.specs.Leaf.{bytes32, bytes64, word32, word64, signed_bytes, signed_of, padded, account_bytes, value_bytes, leaf_of, pairs_on, entry_on, ReadsBack, WritesBack}
use Rattle.journal.specs.declared.entry.Pair.{Pair}

word_bytes : (n : ℕ) → n < 2 ^ 64 → word64 (bytes64 n) ≡ n
word_bytes n h = omega arith

in_64 : (z : ℤ) → InRange z → SFits w64 z
in_64 (pos n) h = record { sfits = omega arith }
in_64 (negsuc n) h = record { sfits = omega arith }

-- a number in range comes back from its eight bytes
signed_back : (z : ℤ) (rest : List ℕ) → InRange z → signed_of (signed_bytes z ++ rest) ≡ z
signed_back z rest h =
    let f : SFits w64 z = in_64 z h in
    ap (to_z w64) (word_bytes (of_z w64 z) (of_z_fits w64 z f).fits) ∙ to_z-of_z w64 z f

abbrev pair : ℕ → ℤ → Pair
pair a z = record { account = a; value = z }

pairs_back : (ps : List Pair) (ks vs : List ℕ) → ((j : ℕ) → j < length ps → InRange (pair_at ps j).value) → pairs_on (length ps) (account_bytes ps ++ ks) (value_bytes ps ++ vs) ≡ ps
pairs_back [] ks vs h = refl
pairs_back (p ∷ ps) ks vs h =
    let rest = value_bytes ps ++ vs in
    ap (λ (z : ℤ). pair p.account z ∷ pairs_on (length ps) (account_bytes ps ++ ks) rest) (signed_back p.value rest (h 0 (omega arith)))
    ∙ ap (λ (qs : List Pair). p ∷ qs) (pairs_back ps ks vs (λ j l. h (suc j) (omega arith)))

mark_back : (b : Bool) → eqb (cond b 1 0) 1 ≡ b
mark_back true = refl
mark_back false = refl

number_back : (n : ℕ) (rest : List ℕ) → n ≤ 4096 → word32 (bytes32 n ++ rest) ≡ n
number_back n rest h = omega arith

length_accounts : (ps : List Pair) → length (account_bytes ps) ≡ length ps
length_accounts ps = length-map ps (λ (p : Pair). p.account)

pub length_padded : (n : ℕ) (bs : List ℕ) → length bs ≤ n → length (padded n bs) ≡ n
length_padded n bs h = length-append bs (replicate (n - length bs) 0) ∙ omega (arith, length-replicate {A = ℕ} (n - length bs) 0)

pub accounts_whole : (ps : List Pair) → length ps ≤ 16 → length (padded 16 (account_bytes ps)) ≡ 16
accounts_whole ps few = length_padded 16 (account_bytes ps) (omega (arith, length_accounts ps))

pub length_values : (ps : List Pair) → length (value_bytes ps) ≡ 8 * length ps
length_values [] = refl
length_values (p ∷ ps) = omega (arith, length_values ps)

pub length_leaf : (e : Posted) → length e.pairs ≤ 16 → length (leaf_of e) ≡ 160
length_leaf e few =
    let ps = e.pairs in
    let both = length-append (padded 16 (account_bytes ps)) (padded 128 (value_bytes ps)) in
    let values = length_padded 128 (value_bytes ps) (omega (arith, length_values ps)) in
    omega (arith, accounts_whole ps few)

abbrev built : ℕ → ℕ → Bool → ℤ → List Pair → Posted
built h n v d ps = record { house = h; number = n; void = v; hand = d; pairs = ps }

-- what two entries say is the same, part by part
pub same : (h h' : ℕ) (n n' : ℕ) (v v' : Bool) (d d' : ℤ) (ps ps' : List Pair) → h ≡ h' → n ≡ n' → v ≡ v' → d ≡ d' → ps ≡ ps' → built h n v d ps ≡ built h' n' v' d' ps'
same h h' n n' v v' d d' ps ps' eh en ev ed ep = cc

pub reads_back : ReadsBack
reads_back e is =
    let ps = e.pairs in
    let values = padded 128 (value_bytes ps) in
    let accounts = padded 16 (account_bytes ps) in
    let pad : List ℕ = replicate (16 - length (account_bytes ps)) 0 in
    let tail = accounts ++ values in
    let cut : min (length ps) 16 ≡ length ps = omega (arith, is.few) in
    let pairs =
    ap (λ (k : ℕ). pairs_on k tail (drop 16 tail)) cut
    ∙ ap (λ (ks : List ℕ). pairs_on (length ps) ks (drop 16 tail)) (append_assoc (account_bytes ps) pad values)
    ∙ ap (λ (vs : List ℕ). pairs_on (length ps) (account_bytes ps ++ (pad ++ values)) vs) (drop_at accounts values 16 (accounts_whole ps is.few))
    ∙ pairs_back ps (pad ++ values) (replicate (128 - length (value_bytes ps)) 0) is.values in
    same e.house _ _ _ _ _ _ _ _ _
    refl
    (number_back e.number (signed_bytes e.hand ++ tail) is.last)
    (mark_back e.void)
    (signed_back e.hand tail is.hand)
    pairs

pub writes_back : WritesBack
writes_back bs (e, is, eq) = ap (λ (x : Posted). leaf_of x) (ap entry_on eq ∙ reads_back e is) ∙ sym eq
