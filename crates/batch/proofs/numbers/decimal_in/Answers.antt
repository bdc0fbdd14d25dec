use Rattle.std.proofs.Common.{◌≡◌, ◌<◌, true, false, nat_lt, ltb-true, length, drop, arith, rules, get_or}
use borrow.Author.Tests.{ltb-false}
use Rattle.batch.proofs.Digits.{unwritten_none, unwritten_zero, written_zero, unwritten_digit, unwritten_large, written_all}
use Rattle.batch.proofs.numbers.decimal_in.Goals.{then-field-lt2+in_default-1, else-field-lt2+in_default-1, then-not-is_ascii_digit-via-then-not-is_ascii_digit, then-not-is_ascii_digit-via-else-not-is_ascii_digit+then-n-gt-MOST_CENTS}
use Rattle.batch.proofs.numbers.decimal_in.Goals as goal

pub returns-in-empty : goal.returns-in-empty
returns-in-empty c = unwritten_none c.args.field.now (omega arith)

pub returns-in-48 : goal.returns-in-48
returns-in-48 c =
    let f = c.args.field.now in
    let h : nat_lt (length f) 1 ≡ false = search rules in
    let k : nat_lt (length f) 2 ≡ true = search rules in
    written_zero f (omega (arith, ltb-false (length f) 1 h, ltb-true (length f) 2 k)) (omega arith)

pub returns-in-48-2 : goal.returns-in-48-2
returns-in-48-2 c =
    let f = c.args.field.now in
    let h : nat_lt (length f) 2 ≡ false = search rules in
    unwritten_zero f (omega arith) (λ e. omega (arith, ltb-false (length f) 2 h, e))

pub returns-then-not-is_ascii_digit : goal.returns-then-not-is_ascii_digit
returns-then-not-is_ascii_digit c =
    let f = c.args.field.now in
    elim c.then-not-is_ascii_digit.branch [
      | then-not-is_ascii_digit-via-then-not-is_ascii_digit w ↦ unwritten_digit f c.loop-c.c-index (omega arith) w.if-not-is_ascii_digit.ensures.value
      | then-not-is_ascii_digit-via-else-not-is_ascii_digit+then-n-gt-MOST_CENTS w ↦ unwritten_large f (drop c.loop-c.c-index f) c.loop-c.n c.loop-c.invariant.0 (omega arith)
    ]

pub returns : goal.returns
returns c =
    let f = c.args.field.now in
    let some : 0 < length f = search rules in
    let z : get_or f 0 0 ≡ 48 → length f ≡ 1 = elim c.if-field-lt2.branch [
      | then-field-lt2+in_default-1 w ↦ λ e. (search (rules, some))
      | else-field-lt2+in_default-1 w ↦ λ e. (search (rules, some))
    ] in
    written_all c.loop-c.n f c.loop-c.c-index (omega arith) some z c.loop-c.invariant.0 c.loop-c.invariant.1 (omega arith)
