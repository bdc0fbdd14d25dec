use Rattle.std.proofs.Common.{◌≡◌, ℕ, zero, suc, ◌-◌, ◌<◌, min, List, length, ℤ, Some, None, Option, sym, refl, ap, ◌∙◌, subst, not-suc-le-zero, arith, w64, SFits, rules, below_more}
use Rattle.std.proofs.lemmas.Int.{to_z-of_z}
use Rattle.journal.specs.Entries.{Posted}
use Rattle.journal.specs.Readings.{given_at}
use Rattle.journal.specs.Balances.{given_here, last_given, IsLast}
use Rattle.journal.specs.declared.balances.Given.{Given}
use Rattle.journal.proofs.PastEntries.{clamped}
use Rattle.journal.proofs.balances.last_given.Goals as goal

-- the last of n entries is asked first
back : (es : List Posted) (a n : ℕ) (o : Option ℤ) → 0 < n → o ≡ given_at es (n - 1) a → last_given es a n ≡ given_here (n - 1) o (last_given es a (n - 1))
back es a zero o h e = absurd (not-suc-le-zero h)
back es a (suc n) o h e =
    let one : suc n - 1 ≡ n = omega arith in
    ap (λ (k : ℕ). given_here k (given_at es k a) (last_given es a k)) (sym one)
    ∙ ap (λ (x : Option ℤ). given_here (suc n - 1) x (last_given es a (suc n - 1))) (sym e)

-- each answer as it is defined is the last
pub is_last : (es : List Posted) (a k : ℕ) → IsLast es a k (last_given es a k)
is_last es a zero = λ j l. absurd (not-suc-le-zero l)
is_last es a (suc k) = here (given_at es k a) refl (last_given es a k) (is_last es a k) where
  later : (P : ℕ → Type 0) → ((j : ℕ) → j < k → P j) → P k → (j : ℕ) → j < suc k → P j
  later P below at j l = below_more P k below at j (omega arith)

  here : (o : Option ℤ) → given_at es k a ≡ o → (before : Option Given) → IsLast es a k before → IsLast es a (suc k) (given_here k o before)
  here (Some v) e before h = (omega arith, e, λ j lt l. absurd (omega arith))
  here None e None h = later (λ j. given_at es j a ≡ None) h e
  here None e (Some x) h =
      (omega (arith, h.0), h.1, λ j lt l. later (λ i. x.place < i → given_at es i a ≡ None) (λ i m n. h.2 i n m) (λ n. e) j l lt)

-- what is defined is the last, whatever term stands for it
told : (es : List Posted) (a k : ℕ) (r : Option Given) → r ≡ last_given es a k → (r ≡ last_given es a k) × IsLast es a k r
told es a k r e = (e, subst (IsLast es a k) (sym e) (is_last es a k))

pub loop-place-init : goal.loop-place-init
loop-place-init g c =
    let es = g.R.Reading.entries c.args.journal.now in
    let end : c.min-end.result ≡ min c.args.k (length es) = c.min-end.ensures ∙ ap (min c.args.k) c.length.ensures in
    ap (last_given es c.args.account) end ∙ clamped es c.args.account c.args.k

pub returns-in-Some : goal.returns-in-Some
returns-in-Some g c =
    let es = g.R.Reading.entries c.args.journal.now in
    let n = c.loop-place.place in
    let f : SFits w64 c.in-Some.value = search rules in
    let is =
    ap (λ (v : ℤ). Some record { place = n - 1; value = v }) (to_z-of_z w64 c.in-Some.value f)
    ∙ sym (back es c.args.account n (Some c.in-Some.value) (search rules) c.in-Some.ensures)
    ∙ c.loop-place.invariant in
    let both = told es c.args.account c.args.k _ is in
    record { value = both.0; last = both.1 }

pub loop-place-preserved : goal.loop-place-preserved
loop-place-preserved g c =
    let es = g.R.Reading.entries c.args.journal.now in
    let n = c.loop-place.place in
    sym (back es c.args.account n None (search rules) c.in_default.ensures) ∙ c.loop-place.invariant

pub returns : goal.returns
returns g c =
    let es = g.R.Reading.entries c.args.journal.now in
    let none : c.loop-place.place ≡ 0 = omega arith in
    let both = told es c.args.account c.args.k None (sym (ap (last_given es c.args.account) none) ∙ c.loop-place.invariant) in
    record { value = both.0; last = both.1 }
