-- The check of standing orders, and what it lets pass.
use Rattle.std.proofs.Common.{◌≡◌, ℕ, zero, suc, ◌+◌, ◌≤◌, Bool, true, false, cond, ◌&&◌, not, leb, List, [], ◌∷◌, length, is_ok, Some, None, Err, Option, sym, refl, ◌∙◌, subst, arith}
use Rattle.std.specs.List.{position_from}
use Rattle.std.proofs.lemmas.Bool.{and_from, and_parts, false≢true, le-leb, leb-true, cond-true, cond_both}
use Rattle.std.proofs.lemmas.Iterator.Adapters.{position_from-zero}
use Rattle.posting.specs.Standing.{good_order, first_bad, refused_at, orders_checked, orders_kept, order_at}
use Rattle.posting.specs.declared.standing_order.StandingOrder.{StandingOrder}
use Rattle.posting.specs.declared.standing_order.StandingRefusal.TheVariants.{NotOneToSixteen}

-- a table of 1 to 16 records is refused at its first bad one, if it has any
pub checked_in : (os : List StandingOrder) → 1 ≤ length os → length os ≤ 16 → refused_at (first_bad os) ≡ orders_checked os
checked_in os some few =
    sym (cond-true (leb 1 (length os) && leb (length os) 16) (refused_at (first_bad os)) (Err NotOneToSixteen)
    (and_from (leb 1 (length os)) (leb (length os) 16) (le-leb _ _ some) (le-leb _ _ few)))

-- what the check lets pass

none_parts : (b : Bool) (rest : Option ℕ) (k : ℕ) → cond (not b) (Some k) rest ≡ None → (b ≡ true) × (rest ≡ None)
none_parts true rest k e = (refl, e)
none_parts false rest k e = absurd (let z : ◌≡◌ {A = ℕ} 0 1 = cc in omega arith)

good_at : (k : ℕ) (os : List StandingOrder) → position_from (λ o. not (good_order o)) k os ≡ None → (house : ℕ) → good_order (order_at os house) ≡ true
good_at k [] e house = refl
good_at k (o ∷ os) e zero = (none_parts (good_order o) (position_from (λ o. not (good_order o)) (k + 1) os) k e).0
good_at k (o ∷ os) e (suc house) = good_at (k + 1) os (none_parts (good_order o) (position_from (λ o. not (good_order o)) (k + 1) os) k e).1 house

ok_parts : (b : Bool) (bad : Option ℕ) → is_ok (cond b (refused_at bad) (Err NotOneToSixteen)) ≡ true → (b ≡ true) × (bad ≡ None)
ok_parts true None e = (refl, refl)
ok_parts true (Some k) e = absurd (false≢true e)
ok_parts false bad e = absurd (false≢true e)

passed : (os : List StandingOrder) → is_ok (orders_checked os) ≡ true → (length os ≤ 16) × ((house : ℕ) → good_order (order_at os house) ≡ true)
passed os e =
    let parts = ok_parts (leb 1 (length os) && leb (length os) 16) (first_bad os) e in
    (leb-true (length os) 16 (and_parts (leb 1 (length os)) (leb (length os) 16) parts.0).1, good_at 0 os (sym (position_from-zero _ os) ∙ parts.1))

-- what is kept passed the check, or is nothing
pub kept_good : (os kept : List StandingOrder) → kept ≡ orders_kept os → (length kept ≤ 16) × ((house : ℕ) → good_order (order_at kept house) ≡ true)
kept_good os kept e =
    let P : List StandingOrder → Type 0 = λ xs. (length xs ≤ 16) × ((house : ℕ) → good_order (order_at xs house) ≡ true) in
    subst P (sym e) (cond_both (is_ok (orders_checked os)) os [] P (λ ok. passed os ok) (λ no. (omega arith, λ house. refl)))
