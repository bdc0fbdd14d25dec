-- Standing orders keep the limits of a source.
use Rattle.std.proofs.Common.{◌≡◌, ℕ, ◌≤◌, true, false, cond, eqb, leb, List, length, ℤ, ◌+ℤ◌, ◌-ℤ◌, Some, None, refl, ap, ◌∙◌, subst, ⊎_elim, arith}
use lib.Signed.{le_z}
use Rattle.std.proofs.lemmas.List.{get_or_past}
use Rattle.std.proofs.lemmas.Bool.{and_parts, leb-true, eqb-true, cases_Bool, both_ways, cond-false, cond_both}
use Rattle.journal.specs.Entries.{InRange, in_range}
use Rattle.posting.specs.Sources.{OrderKept, HandKept, is_read, Limits}
use Rattle.posting.specs.Standing.{good_order, order_at, go_on, next_hand, line_order, line_found, standing}
use Rattle.posting.specs.declared.order.Order.TheVariants.{Read, Write, GoOn, Done, Void}
use Rattle.posting.specs.declared.standing_order.StandingOrder.{StandingOrder}
use Rattle.posting.proofs.Outside.{limits_outside, asked_hand}

-- what the test of a record says
pub record Good (o : StandingOrder) : Type 0 where
  pub from : o.from ≤ 63
  pub to : o.to ≤ 63
  pub floor : InRange o.floor
  pub times : o.times ≤ 4096

pub good_parts : (o : StandingOrder) → good_order o ≡ true → Good o
good_parts o h =
    let a = and_parts (leb o.from 63) _ h in
    let b = and_parts (leb o.to 63) _ a.1 in
    let c = and_parts (in_range o.floor) (leb o.times 4096) b.1 in
    record { from = leb-true _ _ a.0; to = leb-true _ _ b.0; floor = leb-true _ _ c.0; times = leb-true _ _ c.1 }

order_kept : (o : StandingOrder) (line : ℕ) (hand : ℤ) → good_order o ≡ true → InRange hand → OrderKept (line_order o line hand)
order_kept o line hand e h =
    let good = good_parts o e in
    cond_both (eqb line 0) (Read o.from) _ OrderKept (λ e. good.from)
    (λ e. cond_both (eqb line 1) (cond (le_z hand o.floor) Done (Write o.from o.floor)) _ OrderKept
    (λ e. cond_both (le_z hand o.floor) Done (Write o.from o.floor) OrderKept (λ e. tt) (λ e. (good.from, good.floor)))
    (λ e. cond_both (eqb line 2) (go_on (hand -ℤ o.floor)) _ OrderKept
    (λ e. cond_both (in_range (hand -ℤ o.floor)) (GoOn (hand -ℤ o.floor)) Void OrderKept (λ e. leb-true _ _ e) (λ e. tt))
    (λ e. cond_both (eqb line 3) (Read o.to) (Write o.to hand) OrderKept (λ e. good.to) (λ e. (good.to, h)))))

hand_kept : (line : ℕ) (hand value : ℤ) → InRange value → HandKept (line_found line hand value)
hand_kept line hand value h =
    cond_both (eqb line 0) (Some value) (cond (eqb line 3) (next_hand (hand +ℤ value)) None) HandKept (λ e. h)
    (λ e. cond_both (eqb line 3) (next_hand (hand +ℤ value)) None HandKept
    (λ e. cond_both (in_range (hand +ℤ value)) (Some (hand +ℤ value)) None HandKept (λ e. leb-true _ _ e) (λ e. tt)) (λ e. tt))

-- a line that reads is line 0 or line 3
unread : (o : StandingOrder) (line : ℕ) (hand value : ℤ) → is_read (line_order o line hand) ≡ false → line_found line hand value ≡ None
unread o line hand value e =
    ⊎_elim
    (λ first. absurd (both_ways _ (subst (λ (l : ℕ). is_read (line_order o l hand) ≡ false) (eqb-true line 0 first) e) refl))
    (λ later.
    ⊎_elim
    (λ fourth. absurd (both_ways _ (subst (λ (l : ℕ). is_read (line_order o l hand) ≡ false) (eqb-true line 3 fourth) e) refl))
    (λ other. cond-false (eqb line 0) (Some value) _ later ∙ cond-false (eqb line 3) (next_hand (hand +ℤ value)) None other)
    (cases_Bool (eqb line 3)))
    (cases_Bool (eqb line 0))

pub standing_limits : (os : List StandingOrder) → length os ≤ 16 → ((house : ℕ) → good_order (order_at os house) ≡ true) → Limits (standing os)
standing_limits os few good = limits_outside _ record {
  houses = few;
  postings = λ house. (good_parts (order_at os house) (good house)).times;
  absent = λ house past. ap (λ (o : StandingOrder). o.times) (get_or_past os house _ past);
  some = omega arith;
  short = omega arith;
  orders = λ house number line hand e. order_kept (order_at os house) line hand (good house) (asked_hand (standing os) house number line hand e);
  hands = λ house number line hand value e in-range. hand_kept line hand value (leb-true _ _ in-range);
  unread = λ house number line hand value e. unread (order_at os house) line hand value e;
}
