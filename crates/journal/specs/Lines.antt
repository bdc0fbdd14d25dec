-- The line of an entry: its fields as numbers, parted by commas, and a line feed.
use Rattle.std.specs.Prelude.{ℕ, ◌<◌, ◌≤◌, Bool, true, false, cond, List, [], ◌∷◌, ◌++◌, length, drop, Some, None, Ok, Err, decimal, Option, Result, nat_le}
use Rattle.std.specs.Fmt.{signed_decimal}
use Rattle.std.specs.List.{slice_get}
use Rattle.journal.specs.Entries.{Posted, Lawful}
use Rattle.journal.specs.declared.entry.Pair.{Pair}
use Rattle.journal.specs.declared.lines.LineRefusal.{LineRefusal}
use Rattle.journal.specs.declared.lines.LineRefusal.TheVariants.{NoSuchEntry, DoesNotFit}

-- fields, each after a comma
unfoldable pub commaed : List (List ℕ) → List ℕ
commaed [] = []
commaed (f ∷ fs) = 44 ∷ (f ++ commaed fs)

abbrev pub void_mark : Bool → ℕ
void_mark true = 1
void_mark false = 0

-- the account and the value of each pair
abbrev pub pair_fields : List Pair → List (List ℕ)
pair_fields [] = []
pair_fields (p ∷ ps) = decimal p.account ∷ signed_decimal p.value ∷ pair_fields ps

-- what is written of an entry, after its place
abbrev pub entry_fields : Posted → List (List ℕ)
entry_fields e =
    decimal e.house ∷ decimal e.number ∷ decimal (void_mark e.void) ∷ signed_decimal e.hand
    ∷ decimal (length e.pairs) ∷ pair_fields e.pairs

-- the line of entry k
abbrev pub entry_line : ℕ → Posted → List ℕ
entry_line k e = decimal k ++ commaed (entry_fields e) ++ (10 ∷ [])

abbrev pub line_number : LineRefusal → ℕ
line_number NoSuchEntry = 44
line_number DoesNotFit = 45

-- the line's length, if there is such an entry and its line has room

abbrev pub answer_for : List ℕ → ℕ → Result ℕ LineRefusal
answer_for line room = cond (nat_le (length line) room) (Ok (length line)) (Err DoesNotFit)

abbrev pub answer_of : ℕ → ℕ → Option Posted → Result ℕ LineRefusal
answer_of k room None = Err NoSuchEntry
answer_of k room (Some e) = answer_for (entry_line k e) room

abbrev pub line_answer : List Posted → ℕ → ℕ → Result ℕ LineRefusal
line_answer es k room = answer_of k room (slice_get es k)

-- the caller's bytes afterwards: the line in front and the others kept, or all kept if it was refused

abbrev pub in_front : List ℕ → List ℕ → List ℕ
in_front line out = cond (nat_le (length line) (length out)) (line ++ drop (length line) out) out

abbrev pub line_over : ℕ → Option Posted → List ℕ → List ℕ
line_over k None out = out
line_over k (Some e) out = in_front (entry_line k e) out

abbrev pub line_written : List Posted → ℕ → List ℕ → List ℕ
line_written es k out = line_over k (slice_get es k) out

-- no lawful entry's line at a place below 4,096 is longer
abbrev pub LongestLine : Type 0
LongestLine = (k : ℕ) (e : Posted) → k < 4096 → Lawful e → length (entry_line k e) ≤ 372
