-- The rules of a worker's turn, one case for each: the answer (kind, house, posting and place) and the office after it.
use Rattle.std.specs.Prelude.{◌≡◌, ℕ, ◌+◌, ◌<◌, Bool, true, false, ◌||◌, List, [], ◌∷◌, ◌++◌, length, ℤ, Some, None, Option, ◌≢◌}
use Rattle.journal.specs.Entries.{Posted}
use Rattle.posting.specs.Alone.{Outcome, alone, balances_after, posted_for}
use Rattle.posting.specs.Sources.{Meaning}
use Rattle.protocol.specs.Counting.{put}
use Rattle.protocol.specs.History.{entry_at, Stands, touches}
use Rattle.protocol.specs.State.{House, Round, resting, looking, drafted, settling, Worker, State, with_worker, with_house, with_journal, with_dates, to_phase}
use Rattle.protocol.specs.Serving.{Asks, AsksFirst, Keeps, KeepsNext}

-- Kind, house, posting and place. The kinds: 0 idle; 1 a round begins; 2 one place on; 3 the posting was found in the journal;
-- 4 drafted; 5 filed; 6 the draft was dropped; 7 the draft was dropped, and the posting calls for help; 8 settled.
abbrev pub Answer : Type 0
Answer = ℕ × ℕ × ℕ × ℕ

abbrev pub kind_of : Answer → ℕ
kind_of a = a.0

abbrev pub house_of : Answer → ℕ
house_of a = a.1

abbrev pub number_of : Answer → ℕ
number_of a = a.2

abbrev pub idle : Answer
idle = (0, 0, 0, 0)

abbrev pub told : ℕ → Round → Answer
told kind r = (kind, r.house, r.number, r.place)

-- a new round notes the house's number and hand, and starts to look at its start
abbrev pub new_round : State → ℕ → Round
new_round s g = record { house = g; number = (s.house g).number; hand = (s.house g).hand; place = (s.house g).start }

-- the same round, one place on
abbrev pub onward : Round → Round
onward r = record { house = r.house; number = r.number; hand = r.hand; place = r.place + 1 }

-- the worker takes up house g, with this favourite and going on from here for the next one
abbrev pub taken_up : State → ℕ → ℕ → Option ℕ → ℕ → State
taken_up s w g favourite next =
    with_worker s w (record { phase = looking (new_round s g); settled = (s.worker w).settled; favourite = favourite; next = next })

-- the posting of a round, worked alone from the noted hand on the balances after as many entries as its place tells
abbrev pub draft_of : Meaning → State → Round → Outcome
draft_of m s r = alone m (balances_after s.journal s.openings r.place) r.house r.number r.hand

-- the entry at the place of a round
abbrev pub entry_here : State → Round → Posted
entry_here s r = entry_at s.journal r.place

-- it exists and is the posting of the round
abbrev pub Here : State → Round → Type 0
Here s r = Stands s.journal r.place r.house r.number

-- the journal with the draft as its new last entry
abbrev pub filed_now : State → Round → Outcome → List Posted
filed_now s r d = s.journal ++ (posted_for d r.house r.number ∷ [])

-- one more failed round
abbrev pub failing : House → House
failing y = record { number = y.number; hand = y.hand; start = y.start; failed = y.failed + 1; date = y.date }

-- the failed round at which the posting calls for help, and its help date
abbrev pub calling : House → ℕ → House
calling y date = record { number = y.number; hand = y.hand; start = y.start; failed = y.failed + 1; date = date }

-- the house goes on to its next posting, with the hand and the place of the entry of this one
abbrev pub moved_on : House → ℤ → ℕ → House
moved_on y hand place = record { number = y.number + 1; hand = hand; start = place + 1; failed = 0; date = 0 }

-- the worker has settled the posting of its round, and rests
abbrev pub has_settled : Worker → Round → Option ℕ → Worker
has_settled x r favourite = record { phase = resting; settled = put x.settled r.house r.number; favourite = favourite; next = x.next }

-- a favourite that is this house is dropped
pub data Dropped (h : ℕ) : Option ℕ → Option ℕ → Type 0 where
  had_none : Dropped h None None
  was_this : Dropped h (Some h) None
  was_other : (f : ℕ) → (f ≢ h) → Dropped h (Some f) (Some f)

pub data Step (m : Meaning) (s : State) (w : ℕ) : Answer → State → Type 0 where
  -- Resting. Of the houses that ask for help, the one with the smallest date is taken up.
  helps : (g : ℕ) → (s.worker w).phase ≡ resting → AsksFirst m s w g
      → Step m s w (told 1 (new_round s g)) (taken_up s w g (s.worker w).favourite (s.worker w).next)
  -- If none asks, the favourite.
  returns : (g : ℕ) → (s.worker w).phase ≡ resting → ((k : ℕ) → Asks m s w k → ⊥) → (s.worker w).favourite ≡ Some g
      → Step m s w (told 1 (new_round s g)) (taken_up s w g (Some g) (s.worker w).next)
  -- Without a favourite, the next open house that it keeps, which becomes its favourite.
  chooses : (g : ℕ) → (s.worker w).phase ≡ resting → ((k : ℕ) → Asks m s w k → ⊥) → (s.worker w).favourite ≡ None → KeepsNext m s w g
      → Step m s w (told 1 (new_round s g)) (taken_up s w g (Some g) (g + 1))
  -- With none of these it is idle.
  idles : (s.worker w).phase ≡ resting → ((k : ℕ) → Asks m s w k → ⊥) → (s.worker w).favourite ≡ None → ((k : ℕ) → Keeps m s w k → ⊥)
      → Step m s w idle s
  -- Looking, before the end of the journal: past an entry that is not this posting.
  passes : (r : Round) → (s.worker w).phase ≡ looking r → r.place < length s.journal → (Here s r → ⊥)
      → Step m s w (told 2 (onward r)) (to_phase s w (looking (onward r)))
  -- The entry is this posting.
  finds : (r : Round) → (s.worker w).phase ≡ looking r → Here s r
      → Step m s w (told 3 r) (to_phase s w (settling r))
  -- At the end of the journal: the posting is drafted on the balances there.
  drafts : (r : Round) → (s.worker w).phase ≡ looking r → r.place ≡ length s.journal
      → Step m s w (told 4 r) (to_phase s w (drafted r (draft_of m s r) false))
  -- Drafted, before the end: an entry that gives an account among the draft's reads makes it stale.
  overtakes : (r : Round) (d : Outcome) (stale : Bool) → (s.worker w).phase ≡ drafted r d stale → r.place < length s.journal → (Here s r → ⊥)
      → Step m s w (told 2 (onward r)) (to_phase s w (drafted (onward r) d (stale || touches d.reads (entry_here s r).pairs)))
  -- Another worker has filed this posting.
  meets : (r : Round) (d : Outcome) (stale : Bool) → (s.worker w).phase ≡ drafted r d stale → Here s r
      → Step m s w (told 3 r) (to_phase s w (settling r))
  -- At the end, not stale: the draft is filed.
  files : (r : Round) (d : Outcome) → (s.worker w).phase ≡ drafted r d false → r.place ≡ length s.journal
      → Step m s w (told 5 r) (with_journal (to_phase s w (settling r)) (filed_now s r d))
  -- At the end, stale: the draft is dropped. A worker that does not keep the house, or whose house has called already, only rests.
  drops : (r : Round) (d : Outcome) → (s.worker w).phase ≡ drafted r d true → r.place ≡ length s.journal
      → (s.keeper r.house ≡ w → (s.house r.house).date ≢ 0)
      → Step m s w (told 6 r) (to_phase s w resting)
  -- Its keeper has failed once more.
  fails : (r : Round) (d : Outcome) → (s.worker w).phase ≡ drafted r d true → r.place ≡ length s.journal
      → s.keeper r.house ≡ w → (s.house r.house).date ≡ 0 → (s.house r.house).failed + 1 < s.patience
      → Step m s w (told 6 r) (with_house (to_phase s w resting) r.house (failing (s.house r.house)))
  -- Its keeper has failed as often as patience says: the house gets the next help date.
  calls : (r : Round) (d : Outcome) → (s.worker w).phase ≡ drafted r d true → r.place ≡ length s.journal
      → s.keeper r.house ≡ w → (s.house r.house).date ≡ 0 → (s.house r.house).failed + 1 ≡ s.patience
      → Step m s w (told 7 r)
      (with_dates (with_house (to_phase s w resting) r.house (calling (s.house r.house) (s.dates + 1))) (s.dates + 1))
  -- Settling the posting of a house that another worker keeps.
  settles : (r : Round) → (s.worker w).phase ≡ settling r → (s.keeper r.house ≢ w)
      → Step m s w (told 8 r) (with_worker s w (has_settled (s.worker w) r (s.worker w).favourite))
  -- Settling as its keeper: the house goes on to its next posting.
  moves_on : (r : Round) (favourite : Option ℕ) → (s.worker w).phase ≡ settling r → s.keeper r.house ≡ w
      → r.place < length s.journal → Dropped r.house (s.worker w).favourite favourite
      → Step m s w (told 8 r)
      (with_house (with_worker s w (has_settled (s.worker w) r favourite)) r.house
      (moved_on (s.house r.house) (entry_here s r).hand r.place))
