-- A text is lines, and a line is fields.
use Rattle.std.specs.Prelude.{ℕ, cond, List, [], ◌∷◌, ◌==◌}

-- the byte c before the first part
abbrev pub onto : ℕ → List (List ℕ) → List (List ℕ)
onto c [] = (c ∷ []) ∷ []
onto c (p ∷ ps) = (c ∷ p) ∷ ps

-- the parts of a text that is cut at each d; `none` is what no bytes are cut into
abbrev pub parts : ℕ → List (List ℕ) → List ℕ → List (List ℕ)
parts d none [] = none
parts d none (c ∷ cs) = cond (c == d) ([] ∷ parts d none cs) (onto c (parts d none cs))

-- the lines of a text: each ends with a line feed, the last one perhaps without
abbrev pub lines : List ℕ → List (List ℕ)
lines text = parts 10 [] text

-- the fields of a line, parted by commas: always one at least
abbrev pub fields : List ℕ → List (List ℕ)
fields line = parts 44 ([] ∷ []) line

-- the first line of a text, and what comes after its line feed

abbrev pub first_line : List ℕ → List ℕ
first_line [] = []
first_line (c ∷ cs) = cond (c == 10) [] (c ∷ first_line cs)

abbrev pub after_line : List ℕ → List ℕ
after_line [] = []
after_line (c ∷ cs) = cond (c == 10) cs (after_line cs)

-- the first field of a text's first line
abbrev pub first_field : List ℕ → List ℕ
first_field [] = []
first_field (c ∷ cs) = cond (c == 44) [] (cond (c == 10) [] (c ∷ first_field cs))
