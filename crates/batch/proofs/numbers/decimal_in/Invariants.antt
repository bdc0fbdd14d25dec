use Rattle.std.proofs.Common.{◌≡◌, ◌≤◌, drop}
use Rattle.std.specs.Str.{all_ascii_digits}
use Rattle.batch.proofs.Digits.{read_on}
use Rattle.batch.proofs.numbers.decimal_in.Given as goal

abbrev pub invariant-loop-c : goal.invariant-loop-c
invariant-loop-c l =
    (read_on l.n (drop l.c-index l.field) ≡ read_on 0 l.field) × (all_ascii_digits (drop l.c-index l.field) ≡ all_ascii_digits l.field) × (l.n ≤ 10000000000000009)
