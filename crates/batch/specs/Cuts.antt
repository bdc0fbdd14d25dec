-- A line by its mark and the fields after it.
use Rattle.std.specs.Prelude.{◌≡◌, ℕ, ◌≤◌, List, [], ◌∷◌, length}
use Rattle.batch.specs.declared.cutting.Next.{Next}
use Rattle.batch.specs.declared.cutting.Next.TheVariants.{Field, Line}
use Rattle.batch.specs.declared.cutting.Fields.{Fields}
use Rattle.batch.specs.declared.cutting.Fields.TheVariants.{Zero, One, Two, Three, More}
use Rattle.batch.specs.Parts.{fields, first_line, after_line}

-- the fields that are still to come in the line, and the text after it

abbrev pub fields_in : Next → List (List ℕ)
fields_in (Field text) = fields (first_line text.now)
fields_in (Line rest) = []

abbrev pub after_in : Next → List ℕ
after_in (Field text) = after_line text.now
after_in (Line rest) = rest.now

-- how many fields there are, where more than three count as four
abbrev pub field_total : Fields → ℕ
field_total Zero = 0
field_total (One a) = 1
field_total (Two a b) = 2
field_total (Three a b c) = 3
field_total More = 4

-- the fields one by one, those that it has not being empty

abbrev pub first_in : Fields → List ℕ
first_in Zero = []
first_in (One a) = a.now
first_in (Two a b) = a.now
first_in (Three a b c) = a.now
first_in More = []

abbrev pub second_in : Fields → List ℕ
second_in Zero = []
second_in (One a) = []
second_in (Two a b) = b.now
second_in (Three a b c) = b.now
second_in More = []

abbrev pub third_in : Fields → List ℕ
third_in Zero = []
third_in (One a) = []
third_in (Two a b) = []
third_in (Three a b c) = c.now
third_in More = []

-- these are the fields, of more than three only that they are too many
abbrev pub Lists : Fields → List (List ℕ) → Type 0
Lists Zero fs = fs ≡ []
Lists (One a) fs = fs ≡ a.now ∷ []
Lists (Two a b) fs = fs ≡ a.now ∷ b.now ∷ []
Lists (Three a b c) fs = fs ≡ a.now ∷ b.now ∷ c.now ∷ []
Lists More fs = 4 ≤ length fs
