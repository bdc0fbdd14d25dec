-- What the reader has to say of the first line of a text.
use Rattle.std.specs.Prelude.{◌≡◌, ℕ, List, [], ◌∷◌, Ok, Err, Result, MatchResult}
use Rattle.batch.specs.declared.items.Fault.{Fault}
use Rattle.batch.specs.declared.judging.Judged.{Judged}
use Rattle.batch.specs.declared.progress.Progress.{Progress}
use Rattle.batch.specs.declared.progress.Sizes.{Sizes}
use Rattle.batch.specs.declared.cutting.Next.{Next}
use Rattle.batch.specs.Cuts.{fields_in, after_in}
use Rattle.batch.specs.Limits.{Allowed}
use Rattle.batch.specs.Parts.{fields, first_line, after_line}
use Rattle.batch.specs.Rules.{judged}

pub record Accepts (t : Sizes) (s : Progress) (text : List ℕ) (j : Judged) : Type 0 where
  pub item : judged t s (fields (first_line text)) ≡ Ok j.item
  pub rest : j.rest.now ≡ after_line text
  pub allowed : Allowed t s j.item

-- the rules' answer; an accepted line keeps all limits
abbrev pub Judges : Sizes → Progress → List ℕ → Result Judged Fault → Type 0
Judges t s text r = MatchResult r (Accepts t s text) (λ f. judged t s (fields (first_line text)) ≡ Err f)

-- the same of a line by its letter and what it goes on with

pub record AcceptsLine (t : Sizes) (s : Progress) (letter : ℕ) (next : Next) (j : Judged) : Type 0 where
  pub item : judged t s ((letter ∷ []) ∷ fields_in next) ≡ Ok j.item
  pub rest : j.rest.now ≡ after_in next

abbrev pub JudgesLine : Sizes → Progress → ℕ → Next → Result Judged Fault → Type 0
JudgesLine t s letter next r = MatchResult r (AcceptsLine t s letter next) (λ f. judged t s ((letter ∷ []) ∷ fields_in next) ≡ Err f)
