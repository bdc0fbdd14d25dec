-- Who is served next when a worker rests.
use Rattle.std.specs.Prelude.{◌≡◌, ℕ, zero, suc, ◌+◌, ◌-◌, ◌<◌, ◌≤◌, Bool, true, false, cond, not, ◌&&◌, Some, None, Option, ◌==◌, nat_le, nat_lt}
use Rattle.posting.specs.Sources.{Meaning}
use Rattle.protocol.specs.State.{State}

-- in words

-- a house is open until its number passes its count of postings
pub record Open (m : Meaning) (s : State) (g : ℕ) : Type 0 where
  pub known : g < s.houses
  pub left : (s.house g).number ≤ m.postings g

-- an open house with a help date whose present posting this worker has not settled: it asks this worker for help
pub record Asks (m : Meaning) (s : State) (w g : ℕ) : Type 0 where
  pub is_open : Open m s g
  pub dated : 0 < (s.house g).date
  pub unsettled : (s.worker w).settled g ≡ (s.house g).number → ⊥

-- of the houses that ask this worker for help, one with the smallest date
pub record AsksFirst (m : Meaning) (s : State) (w g : ℕ) : Type 0 where
  pub asks : Asks m s w g
  pub first : (k : ℕ) → Asks m s w k → (s.house g).date ≤ (s.house k).date

-- an open house that this worker keeps
pub record Keeps (m : Meaning) (s : State) (w g : ℕ) : Type 0 where
  pub is_open : Open m s g
  pub keeper : s.keeper g ≡ w

-- how many steps house g is away, going round n houses upwards from `from`
abbrev pub steps_from : ℕ → ℕ → ℕ → ℕ
steps_from from n g = cond (nat_le from g) (g - from) (g + n - from)

-- of the open houses that this worker keeps, the next one, going round upwards from where the worker goes on
pub record KeepsNext (m : Meaning) (s : State) (w g : ℕ) : Type 0 where
  pub keeps : Keeps m s w g
  pub first : (k : ℕ) → Keeps m s w k → steps_from (s.worker w).next s.houses g ≤ steps_from (s.worker w).next s.houses k

-- as functions, which compute

abbrev pub house_is_open : Meaning → State → ℕ → Bool
house_is_open m s g = nat_lt g s.houses && nat_le (s.house g).number (m.postings g)

-- it asks this worker for help
abbrev pub asks_for : Meaning → State → ℕ → ℕ → Bool
asks_for m s w g = nat_lt 0 (s.house g).date && (house_is_open m s g && not ((s.worker w).settled g == (s.house g).number))

-- house g, if it asks, against the first of those before it: the smaller date, and of equal dates the lower house
abbrev pub sooner : State → Bool → ℕ → Option ℕ → Option ℕ
sooner s false g best = best
sooner s true g None = Some g
sooner s true g (Some k) = cond (nat_lt (s.house g).date (s.house k).date) (Some g) (Some k)

-- of the houses below n that ask this worker for help, the one with the smallest date
unfoldable pub soonest : Meaning → State → ℕ → ℕ → Option ℕ
soonest m s w zero = None
soonest m s w (suc n) = sooner s (asks_for m s w n) n (soonest m s w n)

abbrev pub keeps_open : Meaning → State → ℕ → ℕ → Bool
keeps_open m s w g = s.keeper g == w && house_is_open m s g

-- the first of n numbers from i on that passes the test
unfoldable pub first_from : (ℕ → Bool) → ℕ → ℕ → Option ℕ
first_from p i zero = None
first_from p i (suc n) = cond (p i) (Some i) (first_from p (i + 1) n)

abbrev pub or_else : Option ℕ → Option ℕ → Option ℕ
or_else None other = other
or_else (Some g) other = Some g

-- from `from` upwards to n, and then from 0 up to `from`
abbrev pub going_round : (ℕ → Bool) → ℕ → ℕ → Option ℕ
going_round p from n = or_else (first_from p from (n - from)) (first_from p 0 from)

-- the house that becomes the next favourite
abbrev pub next_kept : Meaning → State → ℕ → Option ℕ
next_kept m s w = going_round (keeps_open m s w) (s.worker w).next s.houses
