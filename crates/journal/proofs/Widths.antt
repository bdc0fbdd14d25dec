-- How long the line of a lawful entry can be.
use Rattle.std.proofs.Common.{◌≡◌, ℕ, suc, ◌+◌, ◌*◌, ◌<◌, ◌≤◌, Bool, true, false, List, [], ◌∷◌, length, drop, ℤ, pos, negsuc, decimal, arith, length-append}
use Rattle.std.specs.Fmt.{signed_decimal}
use Rattle.std.proofs.lemmas.Fmt.{length-decimal-le, length_signed_le}
use Rattle.journal.specs.Entries.{InRange, pair_at}
use Rattle.journal.specs.Lines.{commaed, void_mark, pair_fields, entry_fields, LongestLine}
use Rattle.journal.specs.declared.entry.Pair.{Pair}
use Rattle.journal.proofs.Written.{commaed_none, commaed_more}

-- a hand or a value has at most 16 digits and a sign
pub cents_width : (z : ℤ) → InRange z → length (signed_decimal z) ≤ 17
cents_width (pos n) h = length_signed_le 16 (pos n) (omega arith) (omega arith)
cents_width (negsuc n) h = length_signed_le 16 (negsuc n) (omega arith) (omega arith)

-- a field has a comma more than its number
pub field_width : (f : List ℕ) (fs : List (List ℕ)) → length (commaed (f ∷ fs)) ≡ 1 + length f + length (commaed fs)
field_width f fs = rw (commaed_more, length-append) (omega arith)

-- a pair has two commas, two digits and the cents
pub pairs_width : (ps : List Pair)
    → ((j : ℕ) → j < length ps → (pair_at ps j).account ≤ 63) → ((j : ℕ) → j < length ps → InRange (pair_at ps j).value)
    → length (commaed (pair_fields ps)) ≤ 21 * length ps
pairs_width [] a v = rw commaed_none (omega arith)
pairs_width (p ∷ ps) a v =
    let account = length-decimal-le 2 p.account (omega arith) (omega (arith, a 0 (omega arith))) (omega (arith, a 0 (omega arith))) in
    let value = cents_width p.value (v 0 (omega arith)) in
    let rest = pairs_width ps (λ j h. a (suc j) (omega arith)) (λ j h. v (suc j) (omega arith)) in
    omega (arith, field_width (decimal p.account) (signed_decimal p.value ∷ pair_fields ps), field_width (signed_decimal p.value) (pair_fields ps))

-- the void mark is one digit
mark_width : (void : Bool) → length (decimal (void_mark void)) ≤ 1
mark_width true = length-decimal-le 1 1 (omega arith) (omega arith) (omega arith)
mark_width false = length-decimal-le 1 0 (omega arith) (omega arith) (omega arith)

-- the widths of the fields add up to 372
pub longest_line_lem : LongestLine
longest_line_lem k e small l =
    let place = length-decimal-le 4 k (omega arith) (omega arith) (omega arith) in
    let house = length-decimal-le 2 e.house (omega arith) (omega arith) (omega arith) in
    let number = length-decimal-le 4 e.number (omega arith) (omega arith) (omega arith) in
    let mark = mark_width e.void in
    let hand = cents_width e.hand l.hand in
    let count = length-decimal-le 2 (length e.pairs) (omega arith) (omega arith) (omega arith) in
    let pairs = pairs_width e.pairs l.accounts l.values in
    let fields = entry_fields e in
    simp length-append (omega (
      arith,
      field_width (decimal e.house) (drop 1 fields),
      field_width (decimal e.number) (drop 2 fields),
      field_width (decimal (void_mark e.void)) (drop 3 fields),
      field_width (signed_decimal e.hand) (drop 4 fields),
      field_width (decimal (length e.pairs)) (drop 5 fields),
    ))
