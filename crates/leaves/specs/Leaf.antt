-- An entry on a leaf: 160 bytes, high byte first.
--   0 house, 1 void mark (0 or 1), 2 count of pairs, 3 zero, 4-7 number, 8-15 hand,
--   16-31 the accounts of the pairs, 32-159 their values, eight bytes each
-- The hand and the values are in two's complement. Unused places are zero.
use Rattle.std.specs.Prelude.{◌≡◌, ℕ, zero, suc, ◌+◌, ◌-◌, ◌*◌, ◌/◌, ◌%◌, min, true, cond, List, [], ◌∷◌, ◌++◌, map, length, drop, replicate, ℤ, ◌==◌, slice_index}
use Rattle.std.specs.Int.{w64, cast_signed, cast_unsigned}
use Rattle.std.specs.List.{flat_map}
use Rattle.journal.specs.Entries.{Posted, Lawful, lawful}
use Rattle.journal.specs.declared.entry.Pair.{Pair}

abbrev pub bytes32 : ℕ → List ℕ
bytes32 n = (n / 16777216 % 256) ∷ (n / 65536 % 256) ∷ (n / 256 % 256) ∷ (n % 256) ∷ []

abbrev pub bytes64 : ℕ → List ℕ
bytes64 n =
    (n / 72057594037927936 % 256) ∷ (n / 281474976710656 % 256) ∷ (n / 1099511627776 % 256) ∷ (n / 4294967296 % 256)
    ∷ (n / 16777216 % 256) ∷ (n / 65536 % 256) ∷ (n / 256 % 256) ∷ (n % 256) ∷ []

abbrev pub word32 : List ℕ → ℕ
word32 bs = slice_index bs 0 * 16777216 + slice_index bs 1 * 65536 + slice_index bs 2 * 256 + slice_index bs 3

abbrev pub word64 : List ℕ → ℕ
word64 bs =
    slice_index bs 0 * 72057594037927936 + slice_index bs 1 * 281474976710656 + slice_index bs 2 * 1099511627776 + slice_index bs 3 * 4294967296
    + slice_index bs 4 * 16777216 + slice_index bs 5 * 65536 + slice_index bs 6 * 256 + slice_index bs 7

-- two's complement in 64 bits
abbrev pub signed_bytes : ℤ → List ℕ
signed_bytes z = bytes64 (cast_unsigned w64 z)

abbrev pub signed_of : List ℕ → ℤ
signed_of bs = cast_signed w64 (word64 bs)

-- these bytes and then zeros, n in all
abbrev pub padded : ℕ → List ℕ → List ℕ
padded n bs = bs ++ replicate (n - length bs) 0

abbrev pub account_bytes : List Pair → List ℕ
account_bytes ps = map (λ (p : Pair). p.account) ps

abbrev pub value_bytes : List Pair → List ℕ
value_bytes ps = flat_map (λ (p : Pair). signed_bytes p.value) ps

abbrev pub head_of : Posted → List ℕ
head_of e = e.house ∷ cond e.void 1 0 ∷ length e.pairs ∷ 0 ∷ (bytes32 e.number ++ signed_bytes e.hand)

-- the leaf of an entry
abbrev pub leaf_of : Posted → List ℕ
leaf_of e = head_of e ++ (padded 16 (account_bytes e.pairs) ++ padded 128 (value_bytes e.pairs))

-- the first n pairs, from the accounts and the values on
abbrev pub pairs_on : ℕ → List ℕ → List ℕ → List Pair
pairs_on zero accounts values = []
pairs_on (suc n) accounts values =
    record { account = slice_index accounts 0; value = signed_of values } ∷ pairs_on n (drop 1 accounts) (drop 8 values)

-- what 160 bytes say, be they a leaf or not
abbrev pub entry_on : List ℕ → Posted
entry_on bs = record {
  house = slice_index bs 0;
  number = word32 (drop 4 bs);
  void = (slice_index bs 1 == 1);
  hand = signed_of (drop 8 bs);
  pairs = pairs_on (min (slice_index bs 2) 16) (drop 16 bs) (drop 32 bs);
}

-- bytes are a leaf if they are the leaf of some entry
abbrev pub IsLeaf : List ℕ → Type 0
IsLeaf bs = (e : Posted) × Lawful e × (bs ≡ leaf_of e)

-- the same in equations: bytes say an entry, and are the leaf of that entry
abbrev pub IsLeafOfItsEntry : List ℕ → Type 0
IsLeafOfItsEntry bs = (lawful (entry_on bs) ≡ true) × (leaf_of (entry_on bs) ≡ bs)

-- an entry put on a leaf reads back equal
abbrev pub ReadsBack : Type 0
ReadsBack = (e : Posted) → Lawful e → entry_on (leaf_of e) ≡ e

-- a leaf is written back as it was
abbrev pub WritesBack : Type 0
WritesBack = (bs : List ℕ) → IsLeaf bs → leaf_of (entry_on bs) ≡ bs
