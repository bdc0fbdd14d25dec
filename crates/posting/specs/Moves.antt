-- What a posting of a standing order does: nothing up to the floor, and else what is above the floor moves.
use Rattle.std.specs.Prelude.{◌≡◌, ℕ, true, false, List, [], ℤ, ◌+ℤ◌, ◌-ℤ◌, Some, None, ◌≢◌, int_le}
use Rattle.journal.specs.Entries.{InRange}
use Rattle.journal.specs.Readings.{given_in}
use Rattle.posting.specs.Alone.{Outcome, alone}
use Rattle.posting.specs.Sources.{asked}
use Rattle.posting.specs.Standing.{order_at, standing}
use Rattle.posting.specs.declared.standing_order.StandingOrder.{StandingOrder}

-- the balance is at most the floor: no account is given a value
pub record Stays (o : StandingOrder) (balance : ℕ → ℤ) (out : Outcome) : Type 0 where
  pub void : out.void ≡ false
  pub hand : out.hand ≡ balance o.from
  pub pairs : out.pairs ≡ []

-- the floor is left on one account, and what is above it comes to the other; no further account is given a value
pub record Moved (o : StandingOrder) (balance : ℕ → ℤ) (out : Outcome) : Type 0 where
  pub void : out.void ≡ false
  pub left : given_in out.pairs o.from ≡ Some o.floor
  pub moved : given_in out.pairs o.to ≡ Some (balance o.from -ℤ o.floor +ℤ balance o.to)
  pub others : (a : ℕ) → (a ≢ o.from) → (a ≢ o.to) → given_in out.pairs a ≡ None

-- for every posting that a house has, on balances that stay in range
pub record Moves (os : List StandingOrder) (house number : ℕ) (start : ℤ) (balance : ℕ → ℤ) : Type 0 where
  pub below :
      int_le (balance (order_at os house).from) (order_at os house).floor ≡ true
      → Stays (order_at os house) balance (alone (standing os) balance house number start)
  pub above :
      int_le (balance (order_at os house).from) (order_at os house).floor ≡ false
      → ((order_at os house).from ≢ (order_at os house).to)
      → InRange (balance (order_at os house).from -ℤ (order_at os house).floor) → InRange (balance (order_at os house).to)
      → InRange (balance (order_at os house).from -ℤ (order_at os house).floor +ℤ balance (order_at os house).to)
      → Moved (order_at os house) balance (alone (standing os) balance house number start)

abbrev pub AlwaysMoves : List StandingOrder → Type 0
AlwaysMoves os =
    (house number : ℕ) (start : ℤ) (balance : ℕ → ℤ) → asked (standing os) house number 0 start ≡ true
    → InRange (balance (order_at os house).from) → Moves os house number start balance
