-- Entries that do not exist give nothing, so more than all entries are no more than all.
use Rattle.std.proofs.Common.{◌≡◌, ℕ, zero, suc, ◌+◌, ◌-◌, min, List, length, None, Option, sym, ap, ◌∙◌, ⊎_elim, add-zero, add-suc, arith}
use Rattle.std.specs.List.{slice_get}
use Rattle.std.proofs.lemmas.Option.{slice_get_past}
use Rattle.std.proofs.lemmas.Bool.{cases_lt}
use Rattle.journal.specs.Entries.{Posted}
use Rattle.journal.specs.Readings.{given_of}
use Rattle.journal.specs.Balances.{last_given, given_here}

past : (es : List Posted) (a n : ℕ) → last_given es a (length es + n) ≡ last_given es a (length es)
past es a zero = ap (last_given es a) (add-zero (length es))
past es a (suc n) =
    let none : slice_get es (length es + n) ≡ None = slice_get_past es (length es + n) (omega arith) in
    ap (last_given es a) (add-suc (length es) n)
    ∙ ap (λ (e : Option Posted). given_here (length es + n) (given_of a e) (last_given es a (length es + n))) none
    ∙ past es a n

pub clamped : (es : List Posted) (a k : ℕ) → last_given es a (min k (length es)) ≡ last_given es a k
clamped es a k =
    ⊎_elim
    (λ below. ap (last_given es a) (let e : min k (length es) ≡ k = omega arith in e))
    (λ above.
    let e : min k (length es) ≡ length es = omega arith in
    let s : length es + (k - length es) ≡ k = omega arith in
    ap (last_given es a) e ∙ sym (past es a (k - length es)) ∙ ap (last_given es a) s)
    (cases_lt k (length es))
