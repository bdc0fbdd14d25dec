-- The worked run, by computation.
use Rattle.std.proofs.Common.{◌≡◌, ℕ, zero, suc, ◌<◌, ◌≤◌, true, [], ◌∷◌, get_or, pos, refl, arith, lit<, lit≤}
use Rattle.journal.specs.Entries.{InRange}
use Rattle.posting.specs.Alone.{worked, pairs_from}
use Rattle.posting.specs.Standing.{good_order, order_at}
use Rattle.posting.proofs.StandingLimits.{standing_limits}
use Rattle.protocol.specs.Counting.{sum_below, put}
use Rattle.protocol.specs.History.{entry_at, Stands}
use Rattle.protocol.specs.Serving.{soonest, first_from}
use Rattle.protocol.specs.Turn.{turn, after_turns}
use Rattle.protocol.specs.Calls.{after, replies}
use Rattle.protocol.specs.Promises.{Opens}
use Rattle.protocol.specs.WorkedRun.{worked_orders, worked_source, worked_plan, worked_office, worked_calls, AWorkedRun, HelpIsNoSooner}

pub a_worked_run : AWorkedRun
unfolding replies turn after_turns soonest first_from put worked pairs_from entry_at
a_worked_run = refl

all_good : (house : ℕ) → good_order (order_at worked_orders house) ≡ true
all_good zero = refl
all_good (suc zero) = refl
all_good (suc (suc h)) = refl

keepers_known : (h : ℕ) → get_or (0 ∷ 1 ∷ []) h 0 < 2
keepers_known zero = lit< tt
keepers_known (suc zero) = lit< tt
keepers_known (suc (suc h)) = lit< tt

openings_ranged : (a : ℕ) → InRange (get_or (pos 0 ∷ pos 0 ∷ pos 0 ∷ pos 1000 ∷ []) a (pos 0))
openings_ranged zero = lit≤ tt
openings_ranged (suc zero) = lit≤ tt
openings_ranged (suc (suc zero)) = lit≤ tt
openings_ranged (suc (suc (suc zero))) = lit≤ tt
openings_ranged (suc (suc (suc (suc a)))) = lit≤ tt

worked_opens : Opens worked_source worked_plan 3
unfolding sum_below
worked_opens = record {
  source = standing_limits worked_orders (lit≤ tt) all_good;
  plan = record {
    houses = (lit≤ tt, lit≤ tt);
    workers = (lit≤ tt, lit≤ tt);
    patience = (lit≤ tt, lit≤ tt);
    keepers = keepers_known;
    openings = openings_ranged;
  };
  accepted = refl;
}

-- the first two entries are of house 0
others_first : (j : ℕ) → j < 2 → Stands (after worked_source worked_office worked_calls).journal j 1 1 → ⊥
unfolding after turn after_turns soonest first_from put worked pairs_from entry_at
others_first zero l x = let z : ◌≡◌ {A = ℕ} 0 1 = x.1 in omega arith
others_first (suc zero) l x = let z : ◌≡◌ {A = ℕ} 0 1 = x.1 in omega arith
others_first (suc (suc j)) l x = omega arith

pub help_is_no_sooner : HelpIsNoSooner
unfolding after turn after_turns soonest first_from put worked pairs_from entry_at
help_is_no_sooner promised =
    let late : 2 ≤ 1 =
    promised worked_source worked_plan 3 worked_opens worked_calls
    (1 ∷ 1 ∷ 0 ∷ 0 ∷ 0 ∷ 0 ∷ 0 ∷ 0 ∷ 1 ∷ []) 1 (0 ∷ 0 ∷ 0 ∷ 0 ∷ 0 ∷ 0 ∷ 0 ∷ []) refl refl 2 (lit≤ tt) others_first in
    omega arith
