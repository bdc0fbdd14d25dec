-- Which entry gave an account its value, and its balance.
use Rattle.std.specs.Prelude.{◌≡◌, ℕ, zero, suc, ◌<◌, cond, List, length, ℤ, pos, Some, None, Ok, Err, Option, Result, nat_le, slice_index_or}
use Rattle.journal.specs.Entries.{Posted}
use Rattle.journal.specs.Readings.{given_at}
use Rattle.journal.specs.declared.balances.BalanceRefusal.{BalanceRefusal}
use Rattle.journal.specs.declared.balances.BalanceRefusal.TheVariants.{NoSuchAccount, PastTheEnd}
use Rattle.journal.specs.declared.balances.Given.{Given}

abbrev pub balance_number : BalanceRefusal → ℕ
balance_number NoSuchAccount = 41
balance_number PastTheEnd = 42

-- the value that entry k gives, with its place, or else what came before
abbrev pub given_here : ℕ → Option ℤ → Option Given → Option Given
given_here k None before = before
given_here k (Some v) before = Some record { place = k; value = v }

-- the last of the first k entries that gives the account: its place and the value
abbrev pub last_given : List Posted → ℕ → ℕ → Option Given
last_given es a zero = None
last_given es a (suc k) = given_here k (given_at es k a) (last_given es a k)

-- the same as a law: that entry gives the account the value, and no later one of the first k gives it any;
-- none, if no entry of the first k gives it
abbrev pub IsLast : List Posted → ℕ → ℕ → Option Given → Type 0
IsLast es a k None = (j : ℕ) → j < k → given_at es j a ≡ None
IsLast es a k (Some g) =
    (g.place < k) × (given_at es g.place a ≡ Some g.value) × ((j : ℕ) → g.place < j → j < k → given_at es j a ≡ None)

-- its value, or the opening value where no entry gives one
abbrev pub value_from : ℤ → Option Given → ℤ
value_from opening None = opening
value_from opening (Some g) = g.value

-- the balance of an account after k entries
abbrev pub balance_after : List Posted → ℤ → ℕ → ℕ → ℤ
balance_after es opening a k = value_from opening (last_given es a k)

-- what a question for account a after k entries answers: 41 comes before 42
abbrev pub balanced : List Posted → List ℤ → ℕ → ℕ → Result ℤ BalanceRefusal
balanced es openings a k =
    cond (nat_le a 63) (cond (nat_le k (length es)) (Ok (balance_after es (slice_index_or openings a (pos 0)) a k)) (Err PastTheEnd)) (Err NoSuchAccount)
