-- What filing an entry at a place answers and leaves.
use Rattle.std.specs.Prelude.{ℕ, cond, List, [], ◌∷◌, ◌++◌, is_ok, Ok, Err, Result, ◌==◌, nat_lt}
use Rattle.journal.specs.Entries.{Posted, posted, is_entry}
use Rattle.journal.specs.declared.entry.Entry.{Entry}
use Rattle.journal.specs.declared.journals.FilingRefusal.{FilingRefusal}
use Rattle.journal.specs.declared.journals.FilingRefusal.TheVariants.{NotAnEntry, NotAtTheEnd, Full}

abbrev pub filing_number : FilingRefusal → ℕ
filing_number NotAnEntry = 61
filing_number NotAtTheEnd = 62
filing_number Full = 63

-- for a journal of this length and size: 61 comes before 62, and 62 before 63
abbrev pub filing : Entry → ℕ → ℕ → ℕ → Result (Unit {0}) FilingRefusal
filing e place len size =
    cond (is_entry e) (cond (place == len) (cond (nat_lt len size) (Ok tt) (Err Full)) (Err NotAtTheEnd)) (Err NotAnEntry)

-- a filed entry stands at the end; a refusal leaves the list as it is
abbrev pub filed : Result (Unit {0}) FilingRefusal → Entry → List Posted → List Posted
filed r e es = cond (is_ok r) (es ++ posted e ∷ []) es
