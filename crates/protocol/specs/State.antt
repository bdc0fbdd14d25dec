-- The state of an office.
use Rattle.std.specs.Prelude.{ℕ, Bool, List, ℤ, pos, None, Option}
use Rattle.journal.specs.Entries.{Posted}
use Rattle.posting.specs.Alone.{Outcome}
use Rattle.protocol.specs.Counting.{put}

-- A house runs its postings one after the other, as a process its transactions: the number of the posting that it is at, which
-- is above its count of postings once it is closed; the hand that it carries; the place from which a worker starts to look;
-- how many rounds of its keeper on this posting have failed; and its help date, 0 for none. Of houses that have called for
-- help the smallest date is served first.
pub record House : Type 0 where
  pub number : ℕ
  pub hand : ℤ
  pub start : ℕ
  pub failed : ℕ
  pub date : ℕ

-- a worker's round on a posting: its house, the number and the hand noted at the start, and the place reached in the journal
pub record Round : Type 0 where
  pub house : ℕ
  pub number : ℕ
  pub hand : ℤ
  pub place : ℕ

-- A worker is resting; or looking through the entries for its posting; or has drafted the posting, and the draft is stale or
-- not; or is settling the entry that it found or filed.
pub data Phase : Type 0 where
  resting : Phase
  looking : Round → Phase
  drafted : Round → Outcome → Bool → Phase
  settling : Round → Phase

-- A worker takes turns, as a processor does: its phase, the last number that it settled for each house (0 for none), its
-- favourite among the houses that it keeps, and the house from which it goes round for the next favourite.
pub record Worker : Type 0 where
  pub phase : Phase
  pub settled : ℕ → ℕ
  pub favourite : Option ℕ
  pub next : ℕ

-- An office: how many houses and workers it has, its patience (how many failed rounds of its keeper a posting bears before it
-- calls for help), the opening values, the keeper of each house (the worker that owns its postings), the houses and workers
-- themselves, how many help dates were given, and its journal's entries and size.
pub record State : Type 0 where
  pub houses : ℕ
  pub workers : ℕ
  pub patience : ℕ
  pub openings : List ℤ
  pub keeper : ℕ → ℕ
  pub house : ℕ → House
  pub worker : ℕ → Worker
  pub dates : ℕ
  pub journal : List Posted
  pub size : ℕ

-- a house at its first posting

abbrev pub new_house : House
new_house = record { number = 1; hand = pos 0; start = 0; failed = 0; date = 0 }

-- a worker that rests, before its first turn

abbrev pub new_worker : Worker
new_worker = record { phase = resting; settled = λ h. 0; favourite = None; next = 0 }

-- the same office with another worker w, house h, journal or count of help dates

abbrev pub with_worker : State → ℕ → Worker → State
with_worker s w x = record {
  houses = s.houses;
  workers = s.workers;
  patience = s.patience;
  openings = s.openings;
  keeper = s.keeper;
  house = s.house;
  worker = put s.worker w x;
  dates = s.dates;
  journal = s.journal;
  size = s.size;
}

abbrev pub with_house : State → ℕ → House → State
with_house s h y = record {
  houses = s.houses;
  workers = s.workers;
  patience = s.patience;
  openings = s.openings;
  keeper = s.keeper;
  house = put s.house h y;
  worker = s.worker;
  dates = s.dates;
  journal = s.journal;
  size = s.size;
}

abbrev pub with_journal : State → List Posted → State
with_journal s es = record {
  houses = s.houses;
  workers = s.workers;
  patience = s.patience;
  openings = s.openings;
  keeper = s.keeper;
  house = s.house;
  worker = s.worker;
  dates = s.dates;
  journal = es;
  size = s.size;
}

abbrev pub with_dates : State → ℕ → State
with_dates s n = record {
  houses = s.houses;
  workers = s.workers;
  patience = s.patience;
  openings = s.openings;
  keeper = s.keeper;
  house = s.house;
  worker = s.worker;
  dates = n;
  journal = s.journal;
  size = s.size;
}

abbrev pub in_phase : Worker → Phase → Worker
in_phase x p = record { phase = p; settled = x.settled; favourite = x.favourite; next = x.next }

-- the same office with worker w in another phase
abbrev pub to_phase : State → ℕ → Phase → State
to_phase s w p = with_worker s w (in_phase (s.worker w) p)
