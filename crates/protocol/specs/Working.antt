-- What a worker does not do: stand idle while there is something for it to do, take up a posting that it has settled, and take up a
-- posting that called for help while one that called earlier waits. And what no other worker can keep it from: its own houses' postings.
use Rattle.std.specs.Prelude.{◌≡◌, ℕ, ◌<◌, List, ◌∷◌, ◌++◌, replicate}
use Rattle.journal.specs.Entries.{Posted}
use Rattle.posting.specs.Sources.{Meaning}
use Rattle.protocol.specs.History.{Stands}
use Rattle.protocol.specs.State.{resting, State}
use Rattle.protocol.specs.Serving.{Asks, Keeps}
use Rattle.protocol.specs.Rules.{Answer, kind_of, house_of, number_of}
use Rattle.protocol.specs.Turn.{turn, after_turns}
use Rattle.protocol.specs.Calls.{after, turns_taken}
use Rattle.protocol.specs.Promises.{Whole, OfEveryOffice}

-- a worker has nothing to do: it is in no round, no house asks for help that it could give, and every house that it keeps is closed
pub record NothingToDo (m : Meaning) (s : State) (w : ℕ) : Type 0 where
  pub rests : (s.worker w).phase ≡ resting
  pub none_asks : (g : ℕ) → Asks m s w g → ⊥
  pub none_kept : (g : ℕ) → Keeps m s w g → ⊥

abbrev pub Idle : Meaning → State → ℕ → Type 0
Idle m s w = kind_of (turn m s w).answer ≡ 0

-- a turn is idle only then
abbrev pub IdleWithNothingToDo : Type 0
IdleWithNothingToDo = OfEveryOffice (λ m s cs. (w : ℕ) → w < s.workers → Idle m (after m s cs) w → NothingToDo m (after m s cs) w)

-- so where every worker is idle, all postings of the source are in the journal
abbrev pub AllIdleIsAllDone : Type 0
AllIdleIsAllDone = OfEveryOffice (λ m s cs. ((w : ℕ) → w < s.workers → Idle m (after m s cs) w) → Whole m (after m s cs).journal)

-- what the turn of worker w answers after these turns since the opening s
abbrev pub answer_after : Meaning → State → List ℕ → ℕ → Answer
answer_after m s before w = (turn m (after_turns m s before) w).answer

-- what a worker settles in one turn and takes up in a later one: where it is the same house, the posting is a later one
pub record Onwards (settling taking : Answer) : Type 0 where
  pub onwards : kind_of settling ≡ 8 → kind_of taking ≡ 1 → house_of settling ≡ house_of taking → number_of settling < number_of taking

abbrev pub SettledIsSettled : Type 0
SettledIsSettled =
    OfEveryOffice (λ m s cs. (before : List ℕ) (w : ℕ) (between later : List ℕ)
    → turns_taken s.workers cs ≡ before ++ (w ∷ (between ++ (w ∷ later)))
    → Onwards (answer_after m s before w) (answer_after m s (before ++ (w ∷ between)) w))

-- Of two postings that have called for help, the one that called later is taken up only once the other is in the journal:
-- the two calls, the turn that takes up the later caller, and the journal at that turn.
pub record FirstHelped (earlier later taking : Answer) (es : List Posted) : Type 0 where
  pub helped : kind_of earlier ≡ 7 → kind_of later ≡ 7 → kind_of taking ≡ 1 → house_of taking ≡ house_of later → number_of taking ≡ number_of later
      → (k : ℕ) × Stands es k (house_of earlier) (number_of earlier)

abbrev pub FirstToCallIsFirst : Type 0
FirstToCallIsFirst =
    OfEveryOffice (λ m s cs. (before : List ℕ) (w : ℕ) (between : List ℕ) (v : ℕ) (since : List ℕ) (u : ℕ) (later : List ℕ)
    → turns_taken s.workers cs ≡ before ++ (w ∷ (between ++ (v ∷ (since ++ (u ∷ later)))))
    → FirstHelped (answer_after m s before w) (answer_after m s (before ++ (w ∷ between)) v)
    (answer_after m s (before ++ (w ∷ (between ++ (v ∷ since)))) u) (after_turns m s (before ++ (w ∷ (between ++ (v ∷ since))))).journal)

-- Whatever the other workers have begun: a worker that takes enough turns, while no other takes any, has nothing left to do. The houses
-- that it keeps are then closed.
abbrev pub LeftAloneItFinishes : Type 0
LeftAloneItFinishes =
    OfEveryOffice (λ m s cs. (w : ℕ) → w < s.workers → (n : ℕ) × NothingToDo m (after_turns m (after m s cs) (replicate n w)) w)
