use Rattle.std.proofs.Common.{◌≡◌, ℕ, ◌<◌, length, pos, neg_ℤ, ◌-ℤ◌, Some, None, sym, ap, ◌∙◌, arith, w64, to_z, of_z, rules, get_or}
use Rattle.std.proofs.lemmas.Int.{to_z_pos}
use Rattle.std.specs.Option.{option_map}
use Rattle.batch.proofs.Accepted.{natural_bounds}
use Rattle.batch.proofs.Signs.{mapped_by, cents_minus, cents_plain, minus_value}
use Rattle.batch.proofs.numbers.cents.Goals.{in_default-via-then-field-lt1, in_default-via-else-field-lt1+in_default-1}
use Rattle.batch.proofs.numbers.cents.Goals as goal

pub returns-in-45 : goal.returns-in-45
returns-in-45 c =
    let e = c.natural.ensures.value in
    let m : (n : ℕ) → c.natural.result ≡ Some n → c.map.result ≡ Some (to_z w64 (of_z w64 (pos 0 -ℤ to_z w64 n))) = λ n h. search rules in
    let none : c.natural.result ≡ None → c.map.result ≡ None = λ h. search rules in
    mapped_by (λ n. neg_ℤ (pos n)) c.natural.result c.map.result none (λ n h. m n h ∙ ap Some (minus_value n (natural_bounds 1 1000000000000000 _ n (sym e ∙ h)).1))
    ∙ ap (option_map (λ n. neg_ℤ (pos n))) e
    ∙ sym (cents_minus c.args.field.now (omega arith) (omega arith))

pub returns-in_default : goal.returns-in_default
returns-in_default c =
    let f = c.args.field.now in
    let e = c.natural-in_default.ensures.value in
    let m : (n : ℕ) → c.natural-in_default.result ≡ Some n → c.map-in_default.result ≡ Some (to_z w64 n) = λ n h. search rules in
    let none : c.natural-in_default.result ≡ None → c.map-in_default.result ≡ None = λ h. search rules in
    let plain : 0 < length f → get_or f 0 0 ≡ 45 → ⊥ = elim c.in_default.branch [ in_default-via-then-field-lt1 w ↦ λ h k. (search rules) | in_default-via-else-field-lt1+in_default-1 w ↦ λ h k. (omega arith) ] in
    mapped_by pos c.natural-in_default.result c.map-in_default.result none (λ n h. m n h ∙ ap Some (to_z_pos w64 n (omega (arith, natural_bounds 0 1000000000000000 _ n (sym e ∙ h)))))
    ∙ ap (option_map pos) e ∙ sym (cents_plain f plain)
