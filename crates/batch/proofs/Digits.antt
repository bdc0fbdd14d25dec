-- What a field of digits writes.
use Rattle.std.proofs.Common.{◌≡◌, ℕ, zero, suc, ◌+◌, ◌-◌, ◌*◌, ◌^◌, ◌<◌, ◌≤◌, Bool, true, false, cond, ◌&&◌, leb, List, [], ◌∷◌, length, get_or, drop, Some, None, decimal, Option, sym, refl, ap, ◌∙◌, arith, rules, le-leb, leb-true}
use borrow.Author.Tests.{leb-false}
use Rattle.std.specs.Str.Parse.{digits_value, AllDigits}
use Rattle.std.specs.Int.{IsInRange}
use Rattle.std.specs.Char.{is_ascii_digit}
use Rattle.std.specs.Str.{all_ascii_digits, bytes_eq}
use Rattle.std.proofs.lemmas.List.{at_drop_more, at_drop_all}
use Rattle.std.proofs.lemmas.Slice.Eq.{bytes_eq-Decides}
use Rattle.std.proofs.lemmas.Str.Parse.{IsNumeralModel, numerals_by_fold, tells_all_ascii_digits, digit_at, tells_digits, numerals_by_value}
use Rattle.std.proofs.lemmas.Fmt.{decimal-digits_value, digits_decimal, digits_value-decimal, decimal_is_IsNumeral, decimal_digit, decimal_nonempty, first_decimal}
use Rattle.std.proofs.lemmas.Bool.{and_from, and_parts}
use Rattle.batch.specs.Fields.{natural, Decimal}

-- digits read from the left, after the number so far
abbrev pub read_on : ℕ → List ℕ → ℕ
read_on n [] = n
read_on n (c ∷ cs) = read_on (n * 10 + (c - 48)) cs

pub own : IsNumeralModel (λ ds. all_ascii_digits ds ≡ true) (read_on 0)
own = numerals_by_fold _ tells_all_ascii_digits read_on (search rules)

-- a number only grows by more digits
pub read_grows : (n : ℕ) (ds : List ℕ) → n ≤ read_on n ds
read_grows n [] = omega arith
read_grows n (c ∷ cs) = omega (arith, read_grows (n * 10 + (c - 48)) cs)

-- the digits of a number
pub decimal_at : (n i : ℕ) → n < 2 ^ 64 → i < length (decimal n) → IsInRange 48 57 (get_or (decimal n) i 0)
decimal_at n i h l = digit_at (decimal n) i (digits_decimal (numerals_by_value (AllDigits 10) tells_digits) n h) l

-- no leading zero
pub no_zero : (n : ℕ) → n < 2 ^ 64 → get_or (decimal n) 0 0 ≡ 48 → length (decimal n) ≡ 1
no_zero zero h e = ap length (decimal_digit 0 (omega arith))
no_zero (suc n) h e = absurd (omega (arith, first_decimal (suc n) (omega arith) h))

digit_true : (c : ℕ) → 48 ≤ c → c ≤ 57 → is_ascii_digit c ≡ true
digit_true c l h = search (rules, le-leb)

-- what is no text of a small number

abbrev pub Unwritten : List ℕ → Type 0
Unwritten field = (n : ℕ) → n ≤ 1000000000000000 → field ≡ decimal n → ⊥

pub unwritten_none : (f : List ℕ) → length f ≡ 0 → Unwritten f
unwritten_none f e n h k = omega (arith, decimal_nonempty n (omega arith), ap length k)

pub unwritten_zero : (f : List ℕ) → get_or f 0 0 ≡ 48 → (length f ≡ 1 → ⊥) → Unwritten f
unwritten_zero f e l n h k = l (ap length k ∙ no_zero n (omega arith) (ap (λ ds. get_or ds 0 0) (sym k) ∙ e))

pub unwritten_digit : (f : List ℕ) (i : ℕ) → i < length f → false ≡ is_ascii_digit (get_or f i 0) → Unwritten f
unwritten_digit f i l e n h k =
    let d : IsInRange 48 57 (get_or (decimal n) i 0) = decimal_at n i (omega arith) (omega (arith, ap length k)) in
    let t : is_ascii_digit (get_or f i 0) ≡ true = digit_true (get_or f i 0) (omega (arith, d, ap (λ ds. get_or ds i 0) k)) (omega (arith, d, ap (λ ds. get_or ds i 0) k)) in
    cc

pub unwritten_large : (f ds : List ℕ) (m : ℕ) → read_on m ds ≡ read_on 0 f → 1000000000000000 < m → Unwritten f
unwritten_large f ds m e l n h k = omega (arith, read_grows m ds, ap (read_on 0) k, digits_value-decimal own n (omega arith))

-- what is the text of a number
pub written_as : (f : List ℕ) (n : ℕ) → all_ascii_digits f ≡ true → 0 < length f → (get_or f 0 0 ≡ 48 → length f ≡ 1) → n ≡ read_on 0 f → n < 2 ^ 64 → f ≡ decimal n
written_as f n d l z e b = sym (decimal-digits_value own f d l z (omega arith)) ∙ ap decimal (sym e)

-- the text of 0
pub written_zero : (f : List ℕ) → length f ≡ 1 → get_or f 0 0 ≡ 48 → f ≡ decimal 0
written_zero [] l e = absurd (omega arith)
written_zero (c ∷ []) l e = ap (λ x. x ∷ []) e ∙ sym (decimal_digit 0 (omega arith))
written_zero (c ∷ d ∷ cs) l e = absurd (omega arith)

-- one more digit

pub read_more : (n : ℕ) (f : List ℕ) (i : ℕ) → i < length f → read_on n (drop i f) ≡ read_on 0 f → read_on (n * 10 + (get_or f i 0 - 48)) (drop (i + 1) f) ≡ read_on 0 f
read_more n f i h e = sym (at_drop_more (read_on n) f i 0 h) ∙ e

pub written_all : (n : ℕ) (f : List ℕ) (i : ℕ) → length f ≤ i → 0 < length f → (get_or f 0 0 ≡ 48 → length f ≡ 1) → read_on n (drop i f) ≡ read_on 0 f → all_ascii_digits (drop i f) ≡ all_ascii_digits f → n < 2 ^ 64
    → f ≡ decimal n
written_all n f i h l z r d b =
    written_as f n (sym d ∙ at_drop_all all_ascii_digits f i h) l z (sym (at_drop_all (read_on n) f i h) ∙ r) b

-- a field's number by its text

pub natural_some : (low high n : ℕ) (f : List ℕ) → n < 2 ^ 64 → f ≡ decimal n → low ≤ n → n ≤ high → natural low high f ≡ Some n
unfolding natural
natural_some low high n f h e l u =
    let v : digits_value 10 f ≡ n = ap (digits_value 10) e ∙ (decimal_is_IsNumeral n h).1 in
    let b = and_from _ _ ((bytes_eq-Decides f (decimal (digits_value 10 f))).1 (e ∙ ap decimal (sym v))) (and_from _ _ (le-leb low (digits_value 10 f) (omega arith)) (le-leb (digits_value 10 f) high (omega arith))) in
    ap (λ (t : Bool). cond t (Some (digits_value 10 f)) None) b ∙ ap Some v

pub natural_none : (low high : ℕ) (f : List ℕ) → ((n : ℕ) → f ≡ decimal n → low ≤ n → n ≤ high → ⊥) → natural low high f ≡ None
unfolding natural
natural_none low high f h =
    let t = bytes_eq f (decimal (digits_value 10 f)) && (leb low (digits_value 10 f) && leb (digits_value 10 f) high) in
    let P : Bool → Type 0 = λ b. t ≡ b → ◌≡◌ {A = Option ℕ} (cond b (Some (digits_value 10 f)) None) None in
    (elim t as P [
      | true ↦ λ e. (let q = and_parts _ _ e in let r = and_parts _ _ q.1 in
          absurd (h (digits_value 10 f) ((bytes_eq-Decides f (decimal (digits_value 10 f))).0 q.0) (leb-true _ _ r.0) (leb-true _ _ r.1)))
      | false ↦ λ e. refl
    ]) refl

pub natural_unwritten : (low high : ℕ) (f : List ℕ) → high ≤ 1000000000000000 → Unwritten f → natural low high f ≡ None
natural_unwritten low high f b u = natural_none low high f (λ n e l h. u n (omega arith) e)

same_number : (f : List ℕ) (m n : ℕ) → m < 2 ^ 64 → n < 2 ^ 64 → f ≡ decimal m → f ≡ decimal n → m ≡ n
same_number f m n a b e k = sym (decimal_is_IsNumeral m a).1 ∙ ap (digits_value 10) (sym e ∙ k) ∙ (decimal_is_IsNumeral n b).1

pub natural_below : (low high n : ℕ) (f : List ℕ) → high ≤ 1000000000000000 → n < 2 ^ 64 → f ≡ decimal n → n < low → natural low high f ≡ None
natural_below low high n f b s e h = natural_none low high f (λ m k l u. omega (arith, same_number f m n (omega arith) s k e))

pub natural_above : (low high n : ℕ) (f : List ℕ) → high ≤ 1000000000000000 → n < 2 ^ 64 → f ≡ decimal n → high < n → natural low high f ≡ None
natural_above low high n f b s e h = natural_none low high f (λ m k l u. omega (arith, same_number f m n (omega arith) s k e))

-- the number of a field's text, if it is within the bounds
pub natural_by : (low high : ℕ) (f : List ℕ) (all kept : Option ℕ) → high ≤ 1000000000000000 → Decimal f all
    → (all ≡ None → kept ≡ None) → ((n : ℕ) → all ≡ Some n → n < 2 ^ 64)
    → ((n : ℕ) → all ≡ Some n → n < low → kept ≡ None) → ((n : ℕ) → all ≡ Some n → high < n → kept ≡ None)
    → ((n : ℕ) → all ≡ Some n → low ≤ n → n ≤ high → kept ≡ Some n) → kept ≡ natural low high f
natural_by low high f None kept b d none small below above within = none refl ∙ sym (natural_unwritten low high f b d)
natural_by low high f (Some n) kept b d none small below above within = go (leb low n) (leb n high) refl refl
  where
    go : (x y : Bool) → leb low n ≡ x → leb n high ≡ y → kept ≡ natural low high f
    go false y e g = below n refl (leb-false low n e) ∙ sym (natural_below low high n f b (small n refl) d (leb-false low n e))
    go true false e g = above n refl (leb-false n high g) ∙ sym (natural_above low high n f b (small n refl) d (leb-false n high g))
    go true true e g = within n refl (leb-true low n e) (leb-true n high g) ∙ sym (natural_some low high n f (small n refl) d (leb-true low n e) (leb-true n high g))
