-- An array made by a function of the index.
use Rattle.std.proofs.Common.{◌≡◌, ℕ, zero, suc, ◌+◌, ◌<◌, ◌≤◌, List, get_or, ⊎_elim, sym, ap, ◌∙◌, subst, eqb, arith}
use Rattle.std.proofs.lemmas.Bool.{cases_Bool, eqb-true, eqb-false}
use Rattle.std.specs.Array.{IsFromFnResultFrom}
use Rattle.std.specs.Fn.{Called}
use denote.Param.Members.{Mut}

-- where calls leave the function as it was, each place holds what it gives there
pub each_gives : {F B : Type 0} {g : Mut F (ℕ × Unit {0}) B} (h : ℕ → B) (f : F) (ys : List B) (i n : ℕ)
    → ((k : ℕ) (y : B) (q : F) → Called g f (k, tt) y q → (q ≡ f) × (y ≡ h k))
    → IsFromFnResultFrom g f ys i n → (k : ℕ) (d : B) → i ≤ k → k < i + n → get_or ys k d ≡ h k
each_gives h f ys i zero keeps all k d from to = absurd (omega arith)
each_gives {F} {B} {g} h f ys i (suc n) keeps all k d from to =
    let call = keeps i all.1 all.0 all.3 in
    let rest = subst (λ q. IsFromFnResultFrom g q ys (i + 1) n) call.0 all.4 in
    ⊎_elim
    (λ here. let e = eqb-true k i here in ap (λ j. get_or ys j d) e ∙ all.2.1 d ∙ call.1 ∙ ap h (sym e))
    (λ later. each_gives h f ys (i + 1) n keeps rest k d (let apart = eqb-false k i later in omega (arith, apart)) (omega arith))
    (cases_Bool (eqb k i))
