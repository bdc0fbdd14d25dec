-- A posting worked line by line.
use Rattle.std.proofs.Common.{◌≡◌, ℕ, zero, suc, ◌+◌, ◌-◌, ◌<◌, ◌≤◌, List, [], ◌∷◌, length, get_or, set, ℤ, Some, None, Option, sym, refl, ap, ◌∙◌, arith}
use Rattle.std.specs.declared.ops.ControlFlow.{ControlFlow}
use Rattle.std.specs.declared.ops.ControlFlow.TheVariants.{Continue, Break}
use Rattle.posting.specs.Sources.{Meaning}
use Rattle.posting.specs.Alone.{sought, noted, told, carried, line_of, pairs_from, closed, voided, after, worked, blank}
use Rattle.posting.specs.declared.order.Order.{Order}
use Rattle.posting.specs.declared.order.Order.TheVariants.{Read, Write, GoOn, Done, Void}
use Rattle.posting.specs.declared.sheet.Sheet.{Sheet}
use Rattle.posting.specs.declared.sheet.Ending.{Ending}
use Rattle.posting.specs.declared.sheet.Ending.TheVariants.{Closed, Voided}

module _ (m : Meaning) (house number : ℕ) (balance : ℕ → ℤ) (start : ℤ) where
  one : (n line : ℕ) (s : Sheet) → line < n → worked m house number balance start (n - line) line s ≡ after start (worked m house number balance start (n - (line + 1)) (line + 1)) (line_of m house number balance line s)
  unfolding worked
  one n line s lt = let e : n - line ≡ suc (n - (line + 1)) = omega arith in rw e refl

  pub worked_more : (n line : ℕ) (s t : Sheet) → line < n → (Continue tt, t) ≡ line_of m house number balance line s → worked m house number balance start (n - (line + 1)) (line + 1) t ≡ worked m house number balance start (n - line) line s
  worked_more n line s t lt e = ap (after start (worked m house number balance start (n - (line + 1)) (line + 1))) e ∙ sym (one n line s lt)

  pub worked_ended : (n line : ℕ) (s t : Sheet) → line < n → (Break Closed, t) ≡ line_of m house number balance line s → closed t ≡ worked m house number balance start (n - line) line s
  worked_ended n line s t lt e = ap (after start (worked m house number balance start (n - (line + 1)) (line + 1))) e ∙ sym (one n line s lt)

  pub worked_voided : (n line : ℕ) (s t : Sheet) → line < n → (Break Voided, t) ≡ line_of m house number balance line s → voided start t ≡ worked m house number balance start (n - line) line s
  worked_voided n line s t lt e = ap (after start (worked m house number balance start (n - (line + 1)) (line + 1))) e ∙ sym (one n line s lt)

  pub worked_out : (n line : ℕ) (s : Sheet) → n - line ≡ 0 → closed s ≡ worked m house number balance start (n - line) line s
  unfolding worked
  worked_out n line s e = rw e refl

pub worked_all : (m : Meaning) (house number : ℕ) (balance : ℕ → ℤ) (start : ℤ) (n : ℕ) (s : Sheet) → s ≡ blank start → worked m house number balance start (n - 0) 0 s ≡ worked m house number balance start n 0 (blank start)
worked_all m house number balance start n s first =
    let e : n - 0 ≡ n = omega arith in ap (λ l. worked m house number balance start l 0 s) e ∙ ap (worked m house number balance start n 0) first

pub worked_same : (m : Meaning) (house number : ℕ) (balance : ℕ → ℤ) (h k : ℤ) (n l : ℕ) → h ≡ k → n ≡ l → worked m house number balance h n 0 (blank h) ≡ worked m house number balance k l 0 (blank k)
worked_same m house number balance h k n l e f =
    ap (λ x. worked m house number balance x n 0 (blank x)) e ∙ ap (λ x. worked m house number balance k x 0 (blank k)) f

-- a line adds at most one pair

set_adds : (a i : ℕ) (ws : List (Option ℤ)) (value : ℤ) → length (pairs_from a (set ws i (Some value))) ≤ length (pairs_from a ws) + 1
unfolding pairs_from
set_adds a i [] value = omega arith
set_adds a zero (None ∷ ws) value = omega arith
set_adds a zero (Some w ∷ ws) value = omega arith
set_adds a (suc i) (None ∷ ws) value = set_adds (a + 1) i ws value
set_adds a (suc i) (Some w ∷ ws) value = let h = set_adds (a + 1) i ws value in omega arith

told_written : (hand : Option ℤ) (s : Sheet) → (told hand s).1.written ≡ s.written
told_written None s = refl
told_written (Some hand) s = refl

noted_written : (w : Option ℤ) (a : ℕ) (s : Sheet) → (noted w a s).written ≡ s.written
noted_written None a s = refl
noted_written (Some value) a s = refl

carried_adds : (o : Order) (found : ℤ → Option ℤ) (balance : ℕ → ℤ) (s : Sheet) → length (pairs_from 0 (carried o found balance s).1.written) ≤ length (pairs_from 0 s.written) + 1
carried_adds (Read a) found balance s =
    let w = get_or s.written a None in
    let next = found (sought w (balance a)) in
    let same : length (pairs_from 0 (told next (noted w a s)).1.written) ≡ length (pairs_from 0 s.written) =
    ap (λ x. length (pairs_from 0 x)) (told_written next (noted w a s) ∙ noted_written w a s) in
    omega arith
carried_adds (Write a value) found balance s = set_adds 0 a s.written value
carried_adds (GoOn hand) found balance s = omega arith
carried_adds Done found balance s = omega arith
carried_adds Void found balance s = omega arith

pub line_adds :
    (m : Meaning) (house number : ℕ) (balance : ℕ → ℤ) (line : ℕ) (s t : Sheet) (p : ControlFlow Ending (Unit {0}))
    → (p, t) ≡ line_of m house number balance line s → length (pairs_from 0 t.written) ≤ length (pairs_from 0 s.written) + 1
line_adds m house number balance line s t p e =
    let same : length (pairs_from 0 t.written) ≡ length (pairs_from 0 (line_of m house number balance line s).1.written) =
    ap (λ (x : ControlFlow Ending (Unit {0}) × Sheet). length (pairs_from 0 x.1.written)) e in
    omega (arith, carried_adds (m.order house number line s.hand) (m.found house number line s.hand) balance s)

-- so after a line there are at most as many pairs as lines
pub lines_few :
    (m : Meaning) (house number : ℕ) (balance : ℕ → ℤ) (line : ℕ) (s t : Sheet) (p : ControlFlow Ending (Unit {0}))
    → length (pairs_from 0 s.written) ≤ line → (p, t) ≡ line_of m house number balance line s → length (pairs_from 0 t.written) ≤ line + 1
lines_few m house number balance line s t p few e = omega (arith, line_adds m house number balance line s t p e)

pub blank_none : (start : ℤ) (s : Sheet) → s ≡ blank start → length (pairs_from 0 s.written) ≡ 0
unfolding pairs_from
blank_none start s first = rw first refl
