-- A posting of a standing order, line by line.
use Rattle.std.proofs.Common.{◌≡◌, ℕ, zero, suc, ◌+◌, ◌<◌, ◌≤◌, true, false, ◌&&◌, eqb, ltb, leb, List, [], ◌∷◌, length, get_or, set, replicate, ℤ, ◌+ℤ◌, ◌-ℤ◌, Some, None, Option, sym, refl, ap, ◌∙◌, zero-add, arith, length-set}
use Rattle.std.specs.declared.ops.ControlFlow.TheVariants.{Continue, Break}
use lib.Signed.{le_z}
use Rattle.std.proofs.lemmas.List.{get_or-set_same, get_or-set_other}
use Rattle.std.proofs.lemmas.Bool.{and_from, and_parts, le-leb, lt-ltb, eq-eqb, ne_eqb, cond-true, cond-false}
use Rattle.journal.specs.Entries.{InRange, in_range}
use Rattle.journal.specs.Readings.{given_in}
use Rattle.posting.specs.Sources.{Meaning, asked}
use Rattle.posting.specs.Alone.{Outcome, sought, noted, told, carried, line_of, pairs_from, closed, after, worked, blank, alone}
use Rattle.posting.specs.Standing.{good_order, order_at, line_order, line_found, standing}
use Rattle.posting.specs.Moves.{AlwaysMoves}
use Rattle.posting.specs.declared.order.Order.TheVariants.{Read, Write, GoOn, Done, Void}
use Rattle.posting.specs.declared.sheet.Sheet.{Sheet}
use Rattle.posting.specs.declared.sheet.Ending.TheVariants.{Closed}
use Rattle.posting.specs.declared.standing_order.StandingOrder.{StandingOrder}
use Rattle.posting.proofs.Outside.{asked_hand}
use Rattle.posting.proofs.StandingLimits.{good_parts}

-- the pairs give an account what was written to it

given_below : (b a : ℕ) (ws : List (Option ℤ)) → a < b → given_in (pairs_from b ws) a ≡ None
unfolding pairs_from
given_below b a [] lt = refl
given_below b a (None ∷ ws) lt = given_below (b + 1) a ws (omega arith)
given_below b a (Some value ∷ ws) lt =
    cond-false (eqb b a) (Some value) _ (ne_eqb b a (λ e. omega arith)) ∙ given_below (b + 1) a ws (omega arith)

given_from : (b a c : ℕ) (ws : List (Option ℤ)) → b + a ≡ c → given_in (pairs_from b ws) c ≡ get_or ws a None
unfolding pairs_from
given_from b a c [] e = refl
given_from b zero c (None ∷ ws) e = given_below (b + 1) c ws (omega arith)
given_from b zero c (Some value ∷ ws) e = cond-true (eqb b c) (Some value) _ (eq-eqb b c (omega arith))
given_from b (suc a) c (None ∷ ws) e = given_from (b + 1) a c ws (omega arith)
given_from b (suc a) c (Some value ∷ ws) e =
    cond-false (eqb b c) (Some value) _ (ne_eqb b c (λ same. omega arith)) ∙ given_from (b + 1) a c ws (omega arith)

pub given_written : (a : ℕ) (ws : List (Option ℤ)) → given_in (pairs_from 0 ws) a ≡ get_or ws a None
given_written a ws = given_from 0 a a ws (zero-add a)

none_at : (n a : ℕ) → ◌≡◌ {A = Option ℤ} (get_or (replicate n None) a None) None
none_at zero a = refl
none_at (suc n) zero = refl
none_at (suc n) (suc a) = none_at n a

-- one line, by its order

module _ (m : Meaning) (house number : ℕ) (balance : ℕ → ℤ) (line : ℕ) (s : Sheet) where
  reads_balance :
      (a : ℕ) (hand : ℤ) → m.order house number line s.hand ≡ Read a → get_or s.written a None ≡ None → m.found house number line s.hand (balance a) ≡ Some hand
      → line_of m house number balance line s ≡ (Continue tt, record { hand = hand; reads = set s.reads a true; written = s.written })
  reads_balance a hand order unwritten found =
      ap (λ o. carried o (m.found house number line s.hand) balance s) order
      ∙ ap (λ w. told (m.found house number line s.hand (sought w (balance a))) (noted w a s)) unwritten
      ∙ ap (λ next. told next (noted None a s)) found

  writes : (a : ℕ) (value : ℤ) → m.order house number line s.hand ≡ Write a value → line_of m house number balance line s ≡ (Continue tt, record { hand = s.hand; reads = s.reads; written = set s.written a (Some value) })
  writes a value order = ap (λ o. carried o (m.found house number line s.hand) balance s) order

  goes_on : (hand : ℤ) → m.order house number line s.hand ≡ GoOn hand → line_of m house number balance line s ≡ (Continue tt, record { hand = hand; reads = s.reads; written = s.written })
  goes_on hand order = ap (λ o. carried o (m.found house number line s.hand) balance s) order

  is_done : m.order house number line s.hand ≡ Done → line_of m house number balance line s ≡ (Break Closed, s)
  is_done order = ap (λ o. carried o (m.found house number line s.hand) balance s) order

module _ (m : Meaning) (house number : ℕ) (balance : ℕ → ℤ) (start : ℤ) (left line : ℕ) (s t : Sheet) where
  then_more : line_of m house number balance line s ≡ (Continue tt, t) → worked m house number balance start (suc left) line s ≡ worked m house number balance start left (line + 1) t
  unfolding worked
  then_more e = ap (after start (worked m house number balance start left (line + 1))) e

  then_ended : line_of m house number balance line s ≡ (Break Closed, t) → worked m house number balance start (suc left) line s ≡ closed t
  unfolding worked
  then_ended e = ap (after start (worked m house number balance start left (line + 1))) e

out_of_lines : (m : Meaning) (house number : ℕ) (balance : ℕ → ℤ) (start : ℤ) (line : ℕ) (s : Sheet) → worked m house number balance start 0 line s ≡ closed s
unfolding worked
out_of_lines m house number balance start line s = refl

none_written : pairs_from 0 (replicate 64 None) ≡ []
unfolding pairs_from
none_written = refl

module _ (os : List StandingOrder) (house number : ℕ) (start : ℤ) (balance : ℕ → ℤ) (in-range : asked (standing os) house number 0 start ≡ true) where
  asks : (line : ℕ) (hand : ℤ) → line < 5 → InRange hand → asked (standing os) house number line hand ≡ true
  asks line hand lt h =
      let a = and_parts (ltb house (length os)) _ in-range in
      let b = and_parts (leb 1 number) _ a.1 in
      let c = and_parts (leb number (order_at os house).times) _ b.1 in
      and_from (ltb house (length os)) _ a.0
      (and_from (leb 1 number) _ b.0
      (and_from (leb number (order_at os house).times) _ c.0
      (and_from (ltb line 5) (in_range hand) (lt-ltb _ _ lt) (le-leb _ _ h))))

  order_is : (line : ℕ) (hand : ℤ) → line < 5 → InRange hand → (standing os).order house number line hand ≡ line_order (order_at os house) line hand
  order_is line hand lt h = cond-true (asked (standing os) house number line hand) (line_order (order_at os house) line hand) Void (asks line hand lt h)

  found_is : (line : ℕ) (hand value : ℤ) → line < 5 → InRange hand → InRange value → (standing os).found house number line hand value ≡ line_found line hand value
  found_is line hand value lt h v =
      cond-true (asked (standing os) house number line hand && in_range value) (line_found line hand value) None
      (and_from (asked (standing os) house number line hand) (in_range value) (asks line hand lt h) (le-leb _ _ v))

  -- the sheet after each line

  abbrev sheet1 : Sheet
  sheet1 = record { hand = balance (order_at os house).from; reads = set (replicate 64 false) (order_at os house).from true; written = replicate 64 None }

  abbrev sheet2 : Sheet
  sheet2 = record { hand = sheet1.hand; reads = sheet1.reads; written = set (replicate 64 None) (order_at os house).from (Some (order_at os house).floor) }

  abbrev rest : ℤ
  rest = balance (order_at os house).from -ℤ (order_at os house).floor

  abbrev sheet3 : Sheet
  sheet3 = record { hand = rest; reads = sheet2.reads; written = sheet2.written }

  abbrev sheet4 : Sheet
  sheet4 = record { hand = rest +ℤ balance (order_at os house).to; reads = set sheet3.reads (order_at os house).to true; written = sheet3.written }

  abbrev sheet5 : Sheet
  sheet5 = record { hand = sheet4.hand; reads = sheet4.reads; written = set sheet4.written (order_at os house).to (Some sheet4.hand) }

  module _ (h : InRange (balance (order_at os house).from)) where
    line0 : line_of (standing os) house number balance 0 (blank start) ≡ (Continue tt, sheet1)
    line0 =
        let s : InRange start = asked_hand (standing os) house number 0 start in-range in
        reads_balance (standing os) house number balance 0 (blank start) (order_at os house).from (balance (order_at os house).from)
        (order_is 0 start (omega arith) s) (none_at 64 (order_at os house).from) (found_is 0 start (balance (order_at os house).from) (omega arith) s h)

    stays : le_z (balance (order_at os house).from) (order_at os house).floor ≡ true → alone (standing os) balance house number start ≡ closed sheet1
    stays low =
        then_more (standing os) house number balance start 4 0 (blank start) sheet1 line0
        ∙ then_ended (standing os) house number balance start 3 1 sheet1 sheet1
        (is_done (standing os) house number balance 1 sheet1
        (order_is 1 sheet1.hand (omega arith) h
        ∙ cond-true (le_z sheet1.hand (order_at os house).floor) Done (Write (order_at os house).from (order_at os house).floor) low))

    moves :
        le_z (balance (order_at os house).from) (order_at os house).floor ≡ false → ((order_at os house).from ≡ (order_at os house).to → ⊥)
        → InRange rest → InRange (balance (order_at os house).to) → InRange (rest +ℤ balance (order_at os house).to)
        → alone (standing os) balance house number start ≡ closed sheet5
    moves high apart r t sum =
        let line1 : line_of (standing os) house number balance 1 sheet1 ≡ (Continue tt, sheet2) =
        writes (standing os) house number balance 1 sheet1 (order_at os house).from (order_at os house).floor
        (order_is 1 sheet1.hand (omega arith) h
        ∙ cond-false (le_z sheet1.hand (order_at os house).floor) Done (Write (order_at os house).from (order_at os house).floor) high) in
        let line2 : line_of (standing os) house number balance 2 sheet2 ≡ (Continue tt, sheet3) =
        goes_on (standing os) house number balance 2 sheet2 rest
        (order_is 2 sheet2.hand (omega arith) h ∙ cond-true (in_range rest) (GoOn rest) Void (le-leb _ _ r)) in
        let line3 : line_of (standing os) house number balance 3 sheet3 ≡ (Continue tt, sheet4) =
        reads_balance (standing os) house number balance 3 sheet3 (order_at os house).to sheet4.hand
        (order_is 3 rest (omega arith) r)
        (get_or-set_other (replicate 64 None) (order_at os house).from (order_at os house).to (Some (order_at os house).floor) None (λ e. apart (sym e))
        ∙ none_at 64 (order_at os house).to)
        (found_is 3 rest (balance (order_at os house).to) (omega arith) r t
        ∙ cond-true (in_range sheet4.hand) (Some sheet4.hand) None (le-leb _ _ sum)) in
        let line4 : line_of (standing os) house number balance 4 sheet4 ≡ (Continue tt, sheet5) =
        writes (standing os) house number balance 4 sheet4 (order_at os house).to sheet4.hand (order_is 4 sheet4.hand (omega arith) sum) in
        then_more (standing os) house number balance start 4 0 (blank start) sheet1 line0
        ∙ then_more (standing os) house number balance start 3 1 sheet1 sheet2 line1
        ∙ then_more (standing os) house number balance start 2 2 sheet2 sheet3 line2
        ∙ then_more (standing os) house number balance start 1 3 sheet3 sheet4 line3
        ∙ then_more (standing os) house number balance start 0 4 sheet4 sheet5 line4
        ∙ out_of_lines (standing os) house number balance start 5 sheet5

-- what the pairs of the last sheet give

set_twice_same : (ws : List (Option ℤ)) (i j : ℕ) (x y : Option ℤ) → length ws ≡ 64 → i ≤ 63 → (i ≡ j → ⊥) → given_in (pairs_from 0 (set (set ws i x) j y)) i ≡ x
set_twice_same ws i j x y all low apart =
    given_written i (set (set ws i x) j y) ∙ get_or-set_other (set ws i x) j i y None apart ∙ get_or-set_same ws i x None (omega arith)

set_twice_last : (ws : List (Option ℤ)) (i j : ℕ) (x y : Option ℤ) → length ws ≡ 64 → j ≤ 63 → given_in (pairs_from 0 (set (set ws i x) j y)) j ≡ y
set_twice_last ws i j x y all low =
    given_written j (set (set ws i x) j y) ∙ get_or-set_same (set ws i x) j y None (omega (arith, length-set ws i x))

set_twice_other : (n i j a : ℕ) (x y : Option ℤ) → (a ≡ i → ⊥) → (a ≡ j → ⊥) → given_in (pairs_from 0 (set (set (replicate n None) i x) j y)) a ≡ None
set_twice_other n i j a x y from to =
    given_written a (set (set (replicate n None) i x) j y) ∙ get_or-set_other (set (replicate n None) i x) j a y None to
    ∙ get_or-set_other (replicate n None) i a x None from ∙ none_at n a

pub always_moves : (os : List StandingOrder) → ((house : ℕ) → good_order (order_at os house) ≡ true) → AlwaysMoves os
always_moves os good house number start balance in-range h = record {
  below = λ low.
      let out = stays os house number start balance in-range h low in
      record {
        void = ap (λ (x : Outcome). x.void) out;
        hand = ap (λ (x : Outcome). x.hand) out;
        pairs = ap (λ (x : Outcome). x.pairs) out ∙ none_written;
      };
  above = λ high apart r t sum.
      let o = order_at os house in
      let ok = good_parts o (good house) in
      let out = moves os house number start balance in-range h high apart r t sum in
      let pairs = ap (λ (x : Outcome). x.pairs) out in
      record {
        void = ap (λ (x : Outcome). x.void) out;
        left = ap (λ ps. given_in ps o.from) pairs ∙ set_twice_same (replicate 64 None) o.from o.to _ _ refl ok.from apart;
        moved = ap (λ ps. given_in ps o.to) pairs ∙ set_twice_last (replicate 64 None) o.from o.to _ _ refl ok.to;
        others = λ a from to. ap (λ ps. given_in ps a) pairs ∙ set_twice_other 64 o.from o.to a _ _ from to;
      };
}
