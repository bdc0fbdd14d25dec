-- What a source of postings means, and the limits that every source keeps.
use Rattle.std.specs.Prelude.{◌≡◌, ℕ, ◌≤◌, Bool, true, false, cond, ◌&&◌, ℤ, Some, None, Option, nat_le, nat_lt}
use Rattle.journal.specs.Entries.{InRange, in_range}
use Rattle.posting.specs.declared.order.Order.{Order}
use Rattle.posting.specs.declared.order.Order.TheVariants.{Read, Write, GoOn, Done, Void}

-- the number of houses, the count of postings of each, and the most lines of a posting; for house, posting, line and
-- hand one order; for the value that a read found the next hand, or none if that is void
pub record Meaning : Type 0 where
  pub houses : ℕ
  pub postings : ℕ → ℕ
  pub longest : ℕ
  pub order : ℕ → ℕ → ℕ → ℤ → Order
  pub found : ℕ → ℕ → ℕ → ℤ → ℤ → Option ℤ

-- whether there is such a house, posting (from 1) and line (from 0), and the hand is in range
abbrev pub asked : Meaning → ℕ → ℕ → ℕ → ℤ → Bool
asked m house number line hand =
    nat_lt house m.houses && (nat_le 1 number && (nat_le number (m.postings house) && (nat_lt line m.longest && in_range hand)))

-- every account that an order names is one of the 64, and every value and hand is in range
abbrev pub OrderKept : Order → Type 0
OrderKept (Read account) = account ≤ 63
OrderKept (Write account value) = (account ≤ 63) × InRange value
OrderKept (GoOn hand) = InRange hand
OrderKept Done = Unit {0}
OrderKept Void = Unit {0}

abbrev pub HandKept : Option ℤ → Type 0
HandKept None = Unit {0}
HandKept (Some hand) = InRange hand

abbrev pub is_read : Order → Bool
is_read (Read account) = true
is_read (Write account value) = false
is_read (GoOn hand) = false
is_read Done = false
is_read Void = false

-- the limits of a source, on every question
pub record Limits (m : Meaning) : Type 0 where
  pub houses : m.houses ≤ 16
  pub postings : (house : ℕ) → m.postings house ≤ 4096
  pub absent : (house : ℕ) → m.houses ≤ house → m.postings house ≡ 0
  pub some : 1 ≤ m.longest
  pub short : m.longest ≤ 16
  pub orders : (house number line : ℕ) (hand : ℤ) → OrderKept (m.order house number line hand)
  pub hands : (house number line : ℕ) (hand value : ℤ) → HandKept (m.found house number line hand value)
  pub outside : (house number line : ℕ) (hand : ℤ) → asked m house number line hand ≡ false → m.order house number line hand ≡ Void
  pub unread : (house number line : ℕ) (hand value : ℤ) → is_read (m.order house number line hand) ≡ false → m.found house number line hand value ≡ None
  pub strange : (house number line : ℕ) (hand value : ℤ) → in_range value ≡ false → m.found house number line hand value ≡ None

-- the same source with void for an answer wherever a question is out of range
abbrev pub void_outside : Meaning → Meaning
void_outside m = record {
  houses = m.houses;
  postings = m.postings;
  longest = m.longest;
  order = λ house number line hand. cond (asked m house number line hand) (m.order house number line hand) Void;
  found = λ house number line hand value. cond (asked m house number line hand && in_range value) (m.found house number line hand value) None;
}
