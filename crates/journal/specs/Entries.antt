-- What an entry says, and which records are entries.
use Rattle.std.specs.Prelude.{◌≡◌, ℕ, ◌+◌, ◌<◌, ◌≤◌, Bool, true, false, not, ◌&&◌, ◌||◌, List, [], ◌∷◌, length, take, ℤ, pos, nat_le, slice_index_or, unsigned_abs}
use Rattle.journal.specs.declared.entry.Entry.{Entry}
use Rattle.journal.specs.declared.entry.Pair.{Pair}

-- what an entry says, however it is stored: the house, the number of its posting, whether the posting is void,
-- the hand that it leaves the house with, and the accounts that it gives values to
pub record Posted : Type 0 where
  pub house : ℕ
  pub number : ℕ
  pub void : Bool
  pub hand : ℤ
  pub pairs : List Pair

-- a record says its first `count` pairs; the others are padding
abbrev pub posted : Entry → Posted
posted e = record { house = e.house; number = e.number; void = e.void; hand = e.hand; pairs = take e.count e.pairs }

-- whole cents from -10^15 to 10^15, for values and hands
abbrev pub InRange : ℤ → Type 0
InRange cents = unsigned_abs cents ≤ 1000000000000000

abbrev pub pair_at : List Pair → ℕ → Pair
pair_at ps j = slice_index_or ps j record { account = 0; value = pos 0 }

-- what makes it an entry
pub record Lawful (e : Posted) : Type 0 where
  pub house : e.house ≤ 15
  pub first : 1 ≤ e.number
  pub last : e.number ≤ 4096
  pub hand : InRange e.hand
  pub few : length e.pairs ≤ 16
  pub accounts : (j : ℕ) → j < length e.pairs → (pair_at e.pairs j).account ≤ 63
  pub rising : (i j : ℕ) → i < j → j < length e.pairs → (pair_at e.pairs i).account < (pair_at e.pairs j).account
  pub values : (j : ℕ) → j < length e.pairs → InRange (pair_at e.pairs j).value
  pub void : e.void ≡ true → e.pairs ≡ []

-- a record is an entry if its count counts pairs that it has, and what it says is lawful
pub record IsEntry (e : Entry) : Type 0 where
  pub counted : e.count ≤ 16
  pub lawful : Lawful (posted e)

-- the same as tests, which compute

abbrev pub in_range : ℤ → Bool
in_range cents = nat_le (unsigned_abs cents) 1000000000000000

abbrev pub fits : ℕ → Pair → Bool
fits least p = nat_le least p.account && (nat_le p.account 63 && in_range p.value)

-- accounts from `least` to 63, each above the one before, with values in range
abbrev pub rises : ℕ → List Pair → Bool
rises least [] = true
rises least (p ∷ ps) = fits least p && rises (p.account + 1) ps

abbrev pub none : List Pair → Bool
none [] = true
none (p ∷ ps) = false

abbrev pub lawful : Posted → Bool
lawful e =
    nat_le e.house 15 && (nat_le 1 e.number && (nat_le e.number 4096 && (in_range e.hand
    && (nat_le (length e.pairs) 16 && ((not e.void || none e.pairs) && rises 0 e.pairs)))))

abbrev pub is_entry : Entry → Bool
is_entry e = nat_le e.count 16 && lawful (posted e)
