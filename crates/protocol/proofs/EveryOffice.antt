-- The promises, for every source, every plan, every size of the journal and every list of calls.
use Rattle.std.proofs.Common.{◌≡◌, ℕ, ◌+◌, ◌-◌, ◌<◌, ◌≤◌, Bool, true, false, cond, eqb, leb, List, [], ◌∷◌, length, get_or, ℤ, Ok, Err, sym, refl, ap, ◌∙◌, subst, arith}
use Rattle.std.proofs.lemmas.Bool.{eqb-true, leb-true}
use Rattle.batch.specs.Plans.{Terms}
use Rattle.journal.specs.Entries.{Posted}
use Rattle.posting.specs.Sources.{Meaning}
use Rattle.posting.proofs.Locality.{always_local}
use Rattle.protocol.specs.State.{State}
use Rattle.protocol.specs.Rules.{house_of, number_of}
use Rattle.protocol.specs.Turn.{turn, after_turns}
use Rattle.protocol.specs.Opening.{opened, all_postings}
use Rattle.protocol.specs.Calls.{Call, after, turns_taken}
use Rattle.protocol.specs.Promises.{AllWorkedAlone, Within, HelpWithin, Opens, ExactlyOnceAloneAndHelped, HelpIsSooner, EveryTurnHasOneOutcome, FilingIsNeverRefused, ReadsDecide}
use Rattle.protocol.specs.Patience.{AlwaysCallsAtPatience}
use Rattle.protocol.specs.Working.{IdleWithNothingToDo, AllIdleIsAllDone, SettledIsSettled, FirstToCallIsFirst, LeftAloneItFinishes}
use Rattle.protocol.specs.declared.refusals.OpeningRefusal.TheVariants.{HousesDiffer, TooManyPostings}
use Rattle.protocol.proofs.Sound.{Sound, opening_sound}
use Rattle.protocol.proofs.Unaltered.{Same}
use Rattle.protocol.proofs.Once.{whole, filing_stands}
use Rattle.protocol.proofs.Outcomes.{one_outcome}
use Rattle.protocol.proofs.Help.{AllBelow, help_in_time}
use Rattle.protocol.proofs.Patience.{calls_at_patience}
use Rattle.protocol.proofs.Working.{Rising, nothing_to_do, turns_rising, settled_onwards}
use Rattle.protocol.proofs.FirstHelped.{first_helped}
use Rattle.protocol.proofs.LeftAlone.{left_alone}
use Rattle.protocol.proofs.TurnsTaken.{below_rest, taken_below, turns_append, turns_same, turns_kept, calls_leave}

-- an accepted opening says that source and plan agree in houses, and that every posting has room
accepted_says : (m : Meaning) (p : Terms) (size : ℕ) → Opens m p size → (m.houses ≡ p.houses) × (all_postings m ≤ size)
accepted_says m p size o = go (eqb m.houses p.houses) refl (leb (all_postings m) size) refl o.accepted
  where
    go : (a : Bool) → eqb m.houses p.houses ≡ a → (b : Bool) → leb (all_postings m) size ≡ b
        → cond a (cond b (Ok (tt {0})) (Err TooManyPostings)) (Err HousesDiffer) ≡ Ok (tt {0}) → (m.houses ≡ p.houses) × (all_postings m ≤ size)
    go true ea true eb q = (eqb-true _ _ ea, leb-true _ _ eb)
    go true ea false eb q = absurd (let z : ◌≡◌ {A = ℕ} 0 1 = cc in omega arith)
    go false ea b eb q = absurd (let z : ◌≡◌ {A = ℕ} 0 1 = cc in omega arith)

module _ (m : Meaning) (p : Terms) (size : ℕ) (o : Opens m p size) where
  start : State
  start = opened p [] size

  start_sound : Sound m start
  unfolding start
  start_sound = let a = accepted_says m p size o in opening_sound m p size a.0 o.plan.patience.0 a.1

  some_worker : 0 < start.workers
  unfolding start
  some_worker = o.plan.workers.0

  turns_sound : (ws : List ℕ) → Sound m (after_turns m start ws)
  turns_sound ws = turns_kept m o.source start start_sound ws

  calls_sound : (cs : List Call) → Sound m (after m start cs)
  calls_sound cs = subst (Sound m) (sym (calls_leave m start some_worker cs)) (turns_sound (turns_taken start.workers cs))

  start_rising : Rising start
  unfolding start
  start_rising = record { rounds = λ v. tt; kept = λ v g q. omega arith }

  calls_rising : (cs : List Call) → Rising (after m start cs)
  calls_rising cs =
      subst Rising (sym (calls_leave m start some_worker cs)) (turns_rising m o.source start start_sound start_rising (turns_taken start.workers cs))

  calls_same : (cs : List Call) → Same start (after m start cs)
  calls_same cs = subst (Same start) (sym (calls_leave m start some_worker cs)) (turns_same m start (turns_taken start.workers cs))

  helped : (cs : List Call) → HelpWithin (start.houses - 1) m start cs
  unfolding after_turns
  helped cs before w later e seven =
      subst (λ (es : List Posted). Within es (house_of (turn m s w).answer) (number_of (turn m s w).answer) (length s.journal + (start.houses - 1))) (sym journal)
      (subst (λ (n : ℕ). Within (after_turns m (turn m s w).state later).journal (house_of (turn m s w).answer) (number_of (turn m s w).answer) (length s.journal + (n - 1)))
      same.houses
      (help_in_time m o.source s (turns_sound before) w seven later (subst (λ (n : ℕ). AllBelow n later) (sym same.workers) below)))
    where
      s : State
      s = after_turns m start before

      same : Same start s
      same = turns_same m start before

      below : AllBelow start.workers later
      below = (below_rest start.workers before (w ∷ later) (subst (AllBelow start.workers) e (taken_below start.workers cs))).1

      journal : (after m start cs).journal ≡ (after_turns m (turn m s w).state later).journal
      journal = ap (λ (x : State). x.journal) (calls_leave m start some_worker cs ∙ ap (after_turns m start) e ∙ turns_append m start before (w ∷ later))

-- more others may be named
pub within_more : (others more : ℕ) (m : Meaning) (s : State) (cs : List Call) → others ≤ more → HelpWithin others m s cs → HelpWithin more m s cs
within_more others more m s cs l h before w later e seven k b out = omega (arith, h before w later e seven k b out)

pub help_is_sooner : HelpIsSooner
unfolding start
help_is_sooner m p size o cs = helped m p size o cs

pub every_office_keeps : ExactlyOnceAloneAndHelped
unfolding start
every_office_keeps m p size o cs = record {
  worked_alone = subst (λ (openings : List ℤ). AllWorkedAlone m openings (after m (opened p [] size) cs).journal) (calls_same m p size o cs).openings i.alone;
  numbered = i.numbered;
  whole = whole m (after m (opened p [] size) cs) i;
  helped = within_more (p.houses - 1) (p.houses + p.workers - 2) m (opened p [] size) cs (omega (arith, o.plan.workers.0, o.plan.houses.0)) (helped m p size o cs);
}
  where
    i : Sound m (after m (opened p [] size) cs)
    i = calls_sound m p size o cs

pub every_turn_has_one_outcome : EveryTurnHasOneOutcome
unfolding start
every_turn_has_one_outcome m p size o cs w l = one_outcome m o.source (after m (opened p [] size) cs) (calls_sound m p size o cs) w

pub filing_is_never_refused : FilingIsNeverRefused
unfolding start
filing_is_never_refused m p size o cs w = filing_stands m o.source (after m (opened p [] size) cs) (calls_sound m p size o cs) w

pub every_call_at_patience : AlwaysCallsAtPatience
unfolding start
every_call_at_patience m p size o cs before w later e =
    calls_at_patience m o.source (opened p [] size) (start_sound m p size o) (λ g. (refl, refl))
    before (turns_same m (opened p [] size) before) (turns_sound m p size o before) w

pub idle_with_nothing_to_do : IdleWithNothingToDo
unfolding start
idle_with_nothing_to_do m p size o cs w l z = nothing_to_do m o.source (after m (opened p [] size) cs) (calls_sound m p size o cs) w z

-- an open house would be something to do for its keeper
pub all_idle_is_all_done : AllIdleIsAllDone
unfolding start
all_idle_is_all_done m p size o cs idle =
    whole m s (calls_sound m p size o cs)
    (λ h is_open. (nothing_to_do m o.source s (calls_sound m p size o cs) (get_or p.keepers h 0) (idle (get_or p.keepers h 0) (o.plan.keepers h))
    ).none_kept h (record { is_open = is_open; keeper = ap (λ (f : ℕ → ℕ). f h) keepers }))
  where
    s : State
    s = after m (opened p [] size) cs

    keepers : s.keeper ≡ (opened p [] size).keeper
    keepers = (calls_same m p size o cs).keeper

pub settled_is_settled : SettledIsSettled
unfolding start
settled_is_settled m p size o cs before w between later e =
    settled_onwards m o.source (opened p [] size) (start_sound m p size o) (start_rising m p size o) before w between

pub first_to_call_is_first : FirstToCallIsFirst
unfolding start
first_to_call_is_first m p size o cs before w between v since u later e =
    first_helped m o.source (opened p [] size) (start_sound m p size o) before w between v since u

pub left_alone_it_finishes : LeftAloneItFinishes
unfolding start
left_alone_it_finishes m p size o cs w l =
    left_alone m o.source (after m (opened p [] size) cs) (calls_sound m p size o cs) (calls_rising m p size o cs) w

pub reads_decide : ReadsDecide
reads_decide m lim = always_local m lim
