-- A worker's turn as a function, which computes.
use Rattle.std.specs.Prelude.{ℕ, ◌+◌, Bool, true, false, cond, ◌&&◌, ◌||◌, List, [], ◌∷◌, length, ℤ, Some, None, Option, ◌==◌, nat_le, nat_lt}
use Rattle.journal.specs.Entries.{lawful}
use Rattle.journal.specs.Readings.{id_at, hand_at}
use Rattle.journal.specs.Writing.{pairs_at}
use Rattle.posting.specs.Alone.{Outcome, posted_for}
use Rattle.posting.specs.Sources.{Meaning}
use Rattle.protocol.specs.History.{is_posting, touches}
use Rattle.protocol.specs.State.{Round, Phase, resting, looking, drafted, settling, State, with_worker, with_house, with_journal, with_dates, to_phase}
use Rattle.protocol.specs.Serving.{soonest, next_kept}
use Rattle.protocol.specs.Rules.{Answer, idle, told, new_round, onward, taken_up, draft_of, filed_now, failing, calling, moved_on, has_settled}

-- the answer, and the office after the turn
pub record Turned : Type 0 where
  pub answer : Answer
  pub state : State

-- A case that the rules leave open, which no turn of an opened office meets: nothing is altered, and the answer is that of an idle turn.
-- It is a place past the end of the journal, a refused filing, a settled posting that is not in the journal or whose house is
-- closed, a failed count past patience, or more help dates than there can be postings.
abbrev pub unruled : State → Turned
unruled s = record { answer = idle; state = s }

-- there are at most 16 houses with at most 4,096 postings each, and a posting calls for help once
abbrev pub most_dates : ℕ
most_dates = 65536

abbrev pub takes_up : State → ℕ → ℕ → Option ℕ → ℕ → Turned
takes_up s w g favourite next = record { answer = told 1 (new_round s g); state = taken_up s w g favourite next }

-- the next favourite, if there is one
abbrev pub choosing : State → ℕ → Option ℕ → Turned
choosing s w None = record { answer = idle; state = s }
choosing s w (Some g) = takes_up s w g (Some g) (g + 1)

-- the house that asks first, or the favourite, or the next favourite
abbrev pub resumed : Meaning → State → ℕ → Option ℕ → Option ℕ → Turned
resumed m s w (Some g) favourite = takes_up s w g favourite (s.worker w).next
resumed m s w None (Some f) = takes_up s w f (Some f) (s.worker w).next
resumed m s w None None = choosing s w (next_kept m s w)

-- the tests of a place: it is below the length, the entry there is the posting of the round, it is the length

abbrev pub is_below : State → Round → Bool
is_below s r = nat_lt r.place (length s.journal)

abbrev pub is_here : State → Round → Bool
is_here s r = is_posting (id_at s.journal r.place) r.house r.number

abbrev pub is_at_end : State → Round → Bool
is_at_end s r = r.place == length s.journal

-- a worker that is looking: the three tests of its place
abbrev pub looked : Meaning → State → ℕ → Round → Bool → Bool → Bool → Turned
looked m s w r true false end = record { answer = told 2 (onward r); state = to_phase s w (looking (onward r)) }
looked m s w r true true end = record { answer = told 3 r; state = to_phase s w (settling r) }
looked m s w r false here true = record { answer = told 4 r; state = to_phase s w (drafted r (draft_of m s r) false) }
looked m s w r false here false = unruled s

-- whether the journal takes the draft
abbrev pub is_fileable : State → Round → Outcome → Bool
is_fileable s r d = lawful (posted_for d r.house r.number) && nat_lt (length s.journal) s.size

-- filing the draft, if the journal takes it
abbrev pub filing : State → ℕ → Round → Outcome → Bool → Turned
filing s w r d true = record { answer = told 5 r; state = with_journal (to_phase s w (settling r)) (filed_now s r d) }
filing s w r d false = unruled s

abbrev pub is_keeper : State → ℕ → Round → Bool
is_keeper s w r = s.keeper r.house == w

abbrev pub keeps_undated : State → ℕ → Round → Bool
keeps_undated s w r = is_keeper s w r && (s.house r.house).date == 0

abbrev pub is_patient : State → Round → Bool
is_patient s r = nat_lt ((s.house r.house).failed + 1) s.patience

abbrev pub is_calling : State → Round → Bool
is_calling s r = (s.house r.house).failed + 1 == s.patience && nat_lt s.dates most_dates

-- a stale draft at the end of the journal, with three tests: the worker keeps the house, which has no date; patience is not reached; it is reached
abbrev pub giving_up : State → ℕ → Round → Bool → Bool → Bool → Turned
giving_up s w r false patient call = record { answer = told 6 r; state = to_phase s w resting }
giving_up s w r true true call =
    record { answer = told 6 r; state = with_house (to_phase s w resting) r.house (failing (s.house r.house)) }
giving_up s w r true false true = record {
  answer = told 7 r;
  state = with_dates (with_house (to_phase s w resting) r.house (calling (s.house r.house) (s.dates + 1))) (s.dates + 1);
}
giving_up s w r true false false = unruled s

-- at the end of the journal: stale, or not
abbrev pub at_end : State → ℕ → Round → Outcome → Bool → Turned
at_end s w r d false = filing s w r d (is_fileable s r d)
at_end s w r d true = giving_up s w r (keeps_undated s w r) (is_patient s r) (is_calling s r)

-- a worker that has drafted: the three tests of its place
abbrev pub followed : State → ℕ → Round → Outcome → Bool → Bool → Bool → Bool → Turned
followed s w r d stale true false end = record {
  answer = told 2 (onward r);
  state = to_phase s w (drafted (onward r) d (stale || touches d.reads (pairs_at s.journal r.place)));
}
followed s w r d stale true true end = record { answer = told 3 r; state = to_phase s w (settling r) }
followed s w r d stale false here true = at_end s w r d stale
followed s w r d stale false here false = unruled s

-- a favourite that is house h is dropped
abbrev pub dropped : ℕ → Option ℕ → Option ℕ
dropped h None = None
dropped h (Some f) = cond (f == h) None (Some f)

-- the house of the round has a posting left
abbrev pub is_left : Meaning → State → Round → Bool
is_left m s r = nat_le (s.house r.house).number (m.postings r.house)

-- a worker that settles: whether it keeps the house; the hand of the entry, if there is one; whether the house is open
abbrev pub settled : State → ℕ → Round → Bool → Option ℤ → Bool → Turned
settled s w r false hand left =
    record { answer = told 8 r; state = with_worker s w (has_settled (s.worker w) r (s.worker w).favourite) }
settled s w r true None left = unruled s
settled s w r true (Some hand) false = unruled s
settled s w r true (Some hand) true = record {
  answer = told 8 r;
  state = with_house (with_worker s w (has_settled (s.worker w) r (dropped r.house (s.worker w).favourite))) r.house
      (moved_on (s.house r.house) hand r.place);
}

abbrev pub turn_in : Meaning → State → ℕ → Phase → Turned
turn_in m s w resting = resumed m s w (soonest m s w s.houses) (s.worker w).favourite
turn_in m s w (looking r) = looked m s w r (is_below s r) (is_here s r) (is_at_end s r)
turn_in m s w (drafted r d stale) = followed s w r d stale (is_below s r) (is_here s r) (is_at_end s r)
turn_in m s w (settling r) =
    settled s w r (is_keeper s w r) (hand_at s.journal r.place) (is_left m s r)

unfoldable pub turn : Meaning → State → ℕ → Turned
turn m s w = turn_in m s w (s.worker w).phase

-- the office after the turns of these workers, one after the other
unfoldable pub after_turns : Meaning → State → List ℕ → State
after_turns m s [] = s
after_turns m s (w ∷ ws) = after_turns m (turn m s w).state ws
