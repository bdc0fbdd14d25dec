-- The customer's source keeps the limits of a source.
use Rattle.std.proofs.Common.{◌≡◌, ℕ, ◌≤◌, min, Bool, true, false, cond, eqb, ℤ, Some, None, refl, arith}
use Rattle.std.proofs.lemmas.Bool.{leb-true, cond-false, cond_both, ne_eqb}
use Rattle.posting.specs.Sources.{OrderKept, HandKept, is_read, Limits}
use Rattle.posting.specs.declared.order.Order.TheVariants.{Read, Write}
use Rattle.posting.proofs.Outside.{limits_outside, asked_hand}
use Rattle.posting_tests.specs.Copying.{copying}

unread : (b : Bool) (hand value : ℤ) → is_read (cond b (Read 1) (Write 2 hand)) ≡ false → cond b (Some value) None ≡ None
unread true hand value e = absurd (let z : ◌≡◌ {A = ℕ} 0 1 = cc in omega arith)
unread false hand value e = refl

pub copying_limits : (times : ℕ) → Limits (copying times)
copying_limits times = limits_outside _ record {
  houses = omega arith;
  postings = λ house. cond_both (eqb house 0) (min times 4096) 0 (λ n. n ≤ 4096) (λ e. omega arith) (λ e. omega arith);
  absent = λ house past. cond-false (eqb house 0) (min times 4096) 0 (ne_eqb house 0 (λ e. omega arith));
  some = omega arith;
  short = omega arith;
  orders = λ house number line hand e.
      cond_both (eqb line 0) (Read 1) (Write 2 hand) OrderKept (λ t. omega arith) (λ f. (omega arith, asked_hand (copying times) house number line hand e));
  hands = λ house number line hand value e r. cond_both (eqb line 0) (Some value) None HandKept (λ t. leb-true _ _ r) (λ f. tt);
  unread = λ house number line hand value e. unread (eqb line 0) hand value e;
}
