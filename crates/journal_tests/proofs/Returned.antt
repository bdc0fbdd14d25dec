-- The lender's memory after one filing, step by step: as the journal left it, as it was filed, as it was lent.
use Rattle.std.proofs.Common.{◌≡◌, ℕ, Bool, cond, List, ap, ◌∙◌}

pub lent_back : {X : Type 0} (put : List X → ℕ → List X) (ok : Bool) (back left start lent : List X) (n : ℕ) → back ≡ left → left ≡ cond ok (put start n) start → start ≡ lent → n ≡ 0 → back ≡ cond ok (put lent 0) lent
lent_back put ok back left start lent n e f g h =
    e ∙ f ∙ ap (λ s. cond ok (put s n) s) g ∙ ap (λ (m : ℕ). cond ok (put lent m) lent) h
