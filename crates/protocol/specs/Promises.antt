-- What an office promises, over every source, every journal, every plan and every list of calls since its opening.
use Rattle.std.specs.Prelude.{◌≡◌, ℕ, ◌+◌, ◌-◌, ◌<◌, ◌≤◌, false, List, [], ◌∷◌, ◌++◌, length, ℤ, pos, None, Ok, slice_index, slice_index_or}
use Rattle.batch.specs.Plans.{Terms}
use Rattle.batch.specs.declared.records.Run.{Run}
use Rattle.journal.specs.Entries.{Posted, Lawful, InRange}
use Rattle.posting.specs.Alone.{Outcome, alone, balances_after, posted_for, Local}
use Rattle.posting.specs.Sources.{Meaning, Limits}
use Rattle.protocol.specs.History.{entry_at, entries_of, last_hand, Stands}
use Rattle.protocol.specs.State.{Round, drafted, State}
use Rattle.protocol.specs.Serving.{Open}
use Rattle.protocol.specs.Rules.{Answer, kind_of, house_of, number_of, Step}
use Rattle.protocol.specs.Turn.{turn, after_turns}
use Rattle.protocol.specs.Opening.{empty, opened, opening_answer}
use Rattle.protocol.specs.Calls.{Call, runs, after, run_refused, turns_of, turns_taken, each_turn}

-- the entry at place k is what its posting gives, worked alone on the balances that the earlier entries leave, from its
-- house's last closing hand; and the source has that posting
pub record WorkedAlone (m : Meaning) (openings : List ℤ) (es : List Posted) (k : ℕ) : Type 0 where
  pub house : (entry_at es k).house < m.houses
  pub first : 1 ≤ (entry_at es k).number
  pub last : (entry_at es k).number ≤ m.postings (entry_at es k).house
  pub gives : entry_at es k
      ≡ posted_for (alone m (balances_after es openings k) (entry_at es k).house (entry_at es k).number (last_hand es (entry_at es k).house k))
      (entry_at es k).house (entry_at es k).number

abbrev pub AllWorkedAlone : Meaning → List ℤ → List Posted → Type 0
AllWorkedAlone m openings es = (k : ℕ) → k < length es → WorkedAlone m openings es k

-- each house's entries are numbered 1, 2, 3 in journal order
abbrev pub Numbered : List Posted → Type 0
Numbered es = (k : ℕ) → k < length es → (entry_at es k).number ≡ entries_of es (entry_at es k).house k + 1

-- the journal is all postings of the source, each once, and nothing else
pub record Whole (m : Meaning) (es : List Posted) : Type 0 where
  pub every : (h n : ℕ) → h < m.houses → 1 ≤ n → n ≤ m.postings h → (k : ℕ) × Stands es k h n
  pub once : (j k h n : ℕ) → Stands es j h n → Stands es k h n → j ≡ k
  pub nothing_else : (k : ℕ) → k < length es
      → ((entry_at es k).house < m.houses) × (1 ≤ (entry_at es k).number) × ((entry_at es k).number ≤ m.postings (entry_at es k).house)

abbrev pub AllClosed : Meaning → State → Type 0
AllClosed m s = (h : ℕ) → Open m s h → ⊥

-- wherever posting n of house h is not among the first k entries, k is at most the limit
abbrev pub Within : List Posted → ℕ → ℕ → ℕ → Type 0
Within es h n limit = (k : ℕ) → k ≤ length es → ((j : ℕ) → j < k → Stands es j h n → ⊥) → k ≤ limit

-- From the turn at which a posting calls for help, so many entries of other postings at most are filed before its own, even if
-- its own never comes. The turn is any of those that the calls take, inside a run as well.
abbrev pub HelpWithin : ℕ → Meaning → State → List Call → Type 0
HelpWithin others m s cs =
    (before : List ℕ) (w : ℕ) (later : List ℕ) → turns_taken s.workers cs ≡ before ++ (w ∷ later)
    → kind_of (turn m (after_turns m s before) w).answer ≡ 7
    → Within (after m s cs).journal (house_of (turn m (after_turns m s before) w).answer) (number_of (turn m (after_turns m s before) w).answer)
    (length (after_turns m s before).journal + others)

-- what holds after a list of calls since the opening s
pub record Kept (m : Meaning) (s : State) (cs : List Call) : Type 0 where
  pub worked_alone : AllWorkedAlone m s.openings (after m s cs).journal
  pub numbered : Numbered (after m s cs).journal
  pub whole : AllClosed m (after m s cs) → Whole m (after m s cs).journal
  pub helped : HelpWithin (s.houses + s.workers - 2) m s cs

-- the limits that every plan keeps
pub record PlanLimits (p : Terms) : Type 0 where
  pub houses : (1 ≤ p.houses) × (p.houses ≤ 16)
  pub workers : (1 ≤ p.workers) × (p.workers ≤ 8)
  pub patience : (1 ≤ p.patience) × (p.patience ≤ 1000)
  pub keepers : (h : ℕ) → slice_index p.keepers h < p.workers
  pub openings : (a : ℕ) → InRange (slice_index_or p.openings a (pos 0))

-- an office over this source that was opened: with a plan, on an empty journal of this size
pub record Opens (m : Meaning) (p : Terms) (size : ℕ) : Type 0 where
  pub source : Limits m
  pub plan : PlanLimits p
  pub accepted : opening_answer m p (empty [] size) ≡ Ok tt

abbrev pub OfEveryOffice : (Meaning → State → List Call → Type 0) → Type 0
OfEveryOffice P = (m : Meaning) (p : Terms) (size : ℕ) → Opens m p size → (cs : List Call) → P m (opened p [] size) cs

-- exactly once, as if worked alone, and help in time
abbrev pub ExactlyOnceAloneAndHelped : Type 0
ExactlyOnceAloneAndHelped = OfEveryOffice Kept

-- help in fact comes sooner: at most one entry of each other house is filed before it
abbrev pub HelpIsSooner : Type 0
HelpIsSooner = OfEveryOffice (λ m s cs. HelpWithin (s.houses - 1) m s cs)

-- every turn of an opened office follows exactly one rule, and what it answers and leaves is what the rule says
pub record OneOutcome (m : Meaning) (s : State) (w : ℕ) : Type 0 where
  pub some : Step m s w (turn m s w).answer (turn m s w).state
  pub only : (a : Answer) (t : State) → Step m s w a t → (a ≡ (turn m s w).answer) × (t ≡ (turn m s w).state)

abbrev pub EveryTurnHasOneOutcome : Type 0
EveryTurnHasOneOutcome = OfEveryOffice (λ m s cs. (w : ℕ) → w < s.workers → OneOutcome m (after m s cs) w)

-- the draft that a worker would file now is a lawful entry, and there is room for it
abbrev pub FilingStands : State → ℕ → Type 0
FilingStands s w =
    (r : Round) (d : Outcome) → (s.worker w).phase ≡ drafted r d false → r.place ≡ length s.journal
    → Lawful (posted_for d r.house r.number) × (length s.journal < s.size)

abbrev pub FilingIsNeverRefused : Type 0
FilingIsNeverRefused = OfEveryOffice (λ m s cs. (w : ℕ) → FilingStands (after m s cs) w)

-- a run that is not refused leaves what its turns leave, called one by one
abbrev pub ARunIsItsTurns : Type 0
ARunIsItsTurns =
    (m : Meaning) (s : State) (rs : List Run) → run_refused s.workers rs ≡ None
    → after m s (runs rs ∷ []) ≡ after m s (each_turn (turns_of rs))

-- a posting worked alone depends on the balances only at the accounts that it reads
abbrev pub ReadsDecide : Type 0
ReadsDecide = (m : Meaning) → Limits m → Local m
