-- No turn alters how many houses and workers an office has, nor its opening values, the keepers of its houses or its patience.
use Rattle.std.proofs.Common.{◌≡◌, ℕ, Bool, true, false, ℤ, Some, None, Option, refl}
use Rattle.journal.specs.Readings.{hand_at}
use Rattle.posting.specs.Alone.{Outcome}
use Rattle.posting.specs.Sources.{Meaning}
use Rattle.protocol.specs.State.{Round, Phase, resting, looking, drafted, settling, State}
use Rattle.protocol.specs.Serving.{soonest, next_kept}
use Rattle.protocol.specs.Turn.{choosing, resumed, is_below, is_here, is_at_end, looked, is_fileable, filing, keeps_undated, is_patient, is_calling, giving_up, at_end, followed, is_keeper, is_left, settled, turn_in, turn}

pub record Same (s t : State) : Type 0 where
  pub houses : t.houses ≡ s.houses
  pub workers : t.workers ≡ s.workers
  pub openings : t.openings ≡ s.openings
  pub keeper : t.keeper ≡ s.keeper
  pub patience : t.patience ≡ s.patience

same : (s : State) → Same s s
same s = record { houses = refl; workers = refl; openings = refl; keeper = refl; patience = refl }

choosing_same : (s : State) (w : ℕ) (o : Option ℕ) → Same s (choosing s w o).state
choosing_same s w None = same s
choosing_same s w (Some g) = record { houses = refl; workers = refl; openings = refl; keeper = refl; patience = refl }

resumed_same : (m : Meaning) (s : State) (w : ℕ) (o f : Option ℕ) → Same s (resumed m s w o f).state
resumed_same m s w (Some g) f = record { houses = refl; workers = refl; openings = refl; keeper = refl; patience = refl }
resumed_same m s w None (Some f) = record { houses = refl; workers = refl; openings = refl; keeper = refl; patience = refl }
resumed_same m s w None None = choosing_same s w (next_kept m s w)

looked_same : (m : Meaning) (s : State) (w : ℕ) (r : Round) (b h z : Bool) → Same s (looked m s w r b h z).state
looked_same m s w r true false z = record { houses = refl; workers = refl; openings = refl; keeper = refl; patience = refl }
looked_same m s w r true true z = record { houses = refl; workers = refl; openings = refl; keeper = refl; patience = refl }
looked_same m s w r false h true = record { houses = refl; workers = refl; openings = refl; keeper = refl; patience = refl }
looked_same m s w r false h false = same s

filing_same : (s : State) (w : ℕ) (r : Round) (d : Outcome) (b : Bool) → Same s (filing s w r d b).state
filing_same s w r d true = record { houses = refl; workers = refl; openings = refl; keeper = refl; patience = refl }
filing_same s w r d false = same s

giving_up_same : (s : State) (w : ℕ) (r : Round) (k p c : Bool) → Same s (giving_up s w r k p c).state
giving_up_same s w r false p c = record { houses = refl; workers = refl; openings = refl; keeper = refl; patience = refl }
giving_up_same s w r true true c = record { houses = refl; workers = refl; openings = refl; keeper = refl; patience = refl }
giving_up_same s w r true false true = record { houses = refl; workers = refl; openings = refl; keeper = refl; patience = refl }
giving_up_same s w r true false false = same s

end_same : (s : State) (w : ℕ) (r : Round) (d : Outcome) (stale : Bool) → Same s (at_end s w r d stale).state
end_same s w r d false = filing_same s w r d (is_fileable s r d)
end_same s w r d true = giving_up_same s w r (keeps_undated s w r) (is_patient s r) (is_calling s r)

followed_same : (s : State) (w : ℕ) (r : Round) (d : Outcome) (stale b h z : Bool) → Same s (followed s w r d stale b h z).state
followed_same s w r d stale true false z = record { houses = refl; workers = refl; openings = refl; keeper = refl; patience = refl }
followed_same s w r d stale true true z = record { houses = refl; workers = refl; openings = refl; keeper = refl; patience = refl }
followed_same s w r d stale false h true = end_same s w r d stale
followed_same s w r d stale false h false = same s

settled_same : (s : State) (w : ℕ) (r : Round) (k : Bool) (o : Option ℤ) (l : Bool) → Same s (settled s w r k o l).state
settled_same s w r false o l = record { houses = refl; workers = refl; openings = refl; keeper = refl; patience = refl }
settled_same s w r true None l = same s
settled_same s w r true (Some hand) false = same s
settled_same s w r true (Some hand) true = record { houses = refl; workers = refl; openings = refl; keeper = refl; patience = refl }

turn_in_same : (m : Meaning) (s : State) (w : ℕ) (p : Phase) → Same s (turn_in m s w p).state
turn_in_same m s w resting = resumed_same m s w (soonest m s w s.houses) (s.worker w).favourite
turn_in_same m s w (looking r) = looked_same m s w r (is_below s r) (is_here s r) (is_at_end s r)
turn_in_same m s w (drafted r d stale) = followed_same s w r d stale (is_below s r) (is_here s r) (is_at_end s r)
turn_in_same m s w (settling r) = settled_same s w r (is_keeper s w r) (hand_at s.journal r.place) (is_left m s r)

pub turn_same : (m : Meaning) (s : State) (w : ℕ) → Same s (turn m s w).state
unfolding turn
turn_same m s w = turn_in_same m s w (s.worker w).phase
