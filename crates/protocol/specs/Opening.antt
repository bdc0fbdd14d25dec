-- The empty office, and what opening it with a plan answers and leaves.
use Rattle.std.specs.Prelude.{ℕ, Bool, cond, ◌&&◌, List, length, replicate, pos, Ok, Err, Result, ◌==◌, nat_le, slice_index}
use Rattle.batch.specs.Plans.{Terms}
use Rattle.journal.specs.Entries.{Posted}
use Rattle.posting.specs.Sources.{Meaning}
use Rattle.protocol.specs.Counting.{sum_below}
use Rattle.protocol.specs.State.{State, new_house, new_worker}
use Rattle.protocol.specs.declared.refusals.OpeningRefusal.{OpeningRefusal}
use Rattle.protocol.specs.declared.refusals.OpeningRefusal.TheVariants.{HousesDiffer, NotEmpty, TooManyPostings}

-- an office over a journal, before its opening: no houses, no workers, and opening values 0
abbrev pub empty : List Posted → ℕ → State
empty es size = record {
  houses = 0;
  workers = 0;
  patience = 1;
  openings = replicate 64 (pos 0);
  keeper = λ h. 0;
  house = λ h. new_house;
  worker = λ w. new_worker;
  dates = 0;
  journal = es;
  size = size;
}

-- the office that a plan fills: every house at its first posting, every worker resting
abbrev pub opened : Terms → List Posted → ℕ → State
opened p es size = record {
  houses = p.houses;
  workers = p.workers;
  patience = p.patience;
  openings = p.openings;
  keeper = λ h. slice_index p.keepers h;
  house = λ h. new_house;
  worker = λ w. new_worker;
  dates = 0;
  journal = es;
  size = size;
}

abbrev pub opening_number : OpeningRefusal → ℕ
opening_number HousesDiffer = 21
opening_number NotEmpty = 22
opening_number TooManyPostings = 23

-- how many postings the source has in all
abbrev pub all_postings : Meaning → ℕ
all_postings m = sum_below m.postings m.houses

-- the office has no workers, and its journal no entries
abbrev pub is_unused : State → Bool
is_unused s = length s.journal == 0 && s.workers == 0

-- 21: source and plan differ in houses; 22: the journal has entries, or the office is filled; 23: more postings than the journal's size
abbrev pub opening_answer : Meaning → Terms → State → Result (Unit {0}) OpeningRefusal
opening_answer m p s =
    cond (m.houses == p.houses)
    (cond (is_unused s) (cond (nat_le (all_postings m) s.size) (Ok tt) (Err TooManyPostings)) (Err NotEmpty))
    (Err HousesDiffer)

-- a refused opening leaves the office as it was
abbrev pub opening_leaves : Result (Unit {0}) OpeningRefusal → Terms → State → State
opening_leaves (Ok u) p s = opened p s.journal s.size
opening_leaves (Err e) p s = s
