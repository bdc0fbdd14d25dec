-- What a whole text says.
use Rattle.std.specs.Prelude.{ℕ, ◌+◌, ◌-◌, Bool, cond, ◌&&◌, ◌||◌, List, [], ◌∷◌, length, Ok, Err, Result, ◌==◌, nat_lt, slice_index}
use Rattle.batch.specs.declared.items.Item.{Item}
use Rattle.batch.specs.declared.items.BatchRefusal.{BatchRefusal}
use Rattle.batch.specs.declared.items.BatchRefusal.TheVariants.{Size, End}
use Rattle.batch.specs.declared.progress.Sizes.{Sizes}
use Rattle.batch.specs.Limits.{Allowed}
use Rattle.batch.specs.Parts.{lines, fields}
use Rattle.batch.specs.Progress.{sofar}
use Rattle.batch.specs.Refusals.{refusal_at}
use Rattle.batch.specs.Rules.{judged}

-- what the lines say after those of the past, all listed latest first: the first faulty line counts
abbrev pub said : Sizes → List Item → List (List ℕ) → Result (List Item) BatchRefusal
said t past [] = Ok past
said t past (l ∷ ls) =
    elim (judged t (sofar past) (fields l)) [ Ok i ↦ said t (i ∷ past) ls | Err f ↦ Err (refusal_at (length past + 1) f) ]

-- the last byte is a line feed, and no house is missing
abbrev pub closes : List ℕ → List Item → Bool
closes text past = slice_index text (length text - 1) == 10 && (sofar past).seen == (sofar past).houses

abbrev pub ended : List ℕ → Result (List Item) BatchRefusal → Result (List Item) BatchRefusal
ended text (Err e) = Err e
ended text (Ok past) = cond (closes text past) (Ok past) (Err (End (length past)))

-- what each line of a text says, the latest first, or the refusal, however long the text is
abbrev pub batch_of_any_length : Sizes → List ℕ → Result (List Item) BatchRefusal
batch_of_any_length t text = cond (length text == 0) (Err Size) (ended text (said t [] (lines text)))

-- what each line of a batch says, the latest first, or the refusal: a batch has at most 32,768 bytes
abbrev pub batch : Sizes → List ℕ → Result (List Item) BatchRefusal
batch t text = cond (length text == 0 || nat_lt 32768 (length text)) (Err Size) (ended text (said t [] (lines text)))

-- each line may stand where it comes, keeps its limits and has room
abbrev pub Lawful : Sizes → List Item → Type 0
Lawful t [] = Unit {0}
Lawful t (i ∷ past) = Allowed t (sofar past) i × Lawful t past

-- what the reader answers
abbrev pub answered : Result (List Item) BatchRefusal → Result (Unit {0}) BatchRefusal
answered (Ok past) = Ok tt
answered (Err e) = Err e
