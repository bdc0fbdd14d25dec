use Rattle.std.proofs.Common.{ℕ, pos, nat_abs, ap, arith}
use Rattle.batch.proofs.Zeros.{all_same}
use Rattle.batch.proofs.plan.Plan.fresh.Goals as goal

pub invariant_of-result : goal.invariant_of-result
invariant_of-result c =
    record {
      house = c.requires.houses;
      worker = c.requires.workers;
      patient = c.requires.patience;
      kept = λ k. omega (arith, all_same {X = ℕ} 16 k 0);
      ranged = λ k. omega (arith, ap nat_abs (all_same 64 k (pos 0)));
    }
