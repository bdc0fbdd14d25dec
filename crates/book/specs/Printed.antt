-- What the program prints of a closed book.
use Rattle.std.specs.Prelude.{◌≡◌, ℕ, zero, suc, ◌/◌, List, [], ◌∷◌, ◌++◌, length, Some, None, Ok, Err, decimal, Option, Result}
use Rattle.std.specs.Fmt.{signed_decimal}
use Rattle.std.specs.List.{slice_get}
use Rattle.journal.specs.Entries.{Posted}
use Rattle.journal.specs.Balances.{last_given}
use Rattle.journal.specs.Lines.{entry_line}
use Rattle.leaves.specs.Pages.{entries_on, book_number, book_leaf, BookChecked}
use Rattle.journal.specs.declared.balances.Given.{Given}
use Rattle.leaves.specs.declared.book_check.BookRefusal.{BookRefusal}

-- n texts, one after the other
unfoldable pub in_turn : (ℕ → List ℕ) → ℕ → List ℕ
in_turn text zero = []
in_turn text (suc n) = in_turn text n ++ text n

-- the line of the entry at a place
abbrev pub line_of : ℕ → Option Posted → List ℕ
line_of k None = []
line_of k (Some e) = entry_line k e

-- the entry line of each entry
abbrev pub entry_lines : List Posted → List ℕ
entry_lines es = in_turn (λ k. line_of k (slice_get es k)) (length es)

-- A,account,value,place; nothing for an account that no entry gives
abbrev pub account_line : ℕ → Option Given → List ℕ
account_line a None = []
account_line a (Some g) =
    65 ∷ 44 ∷ (decimal a ++ (44 ∷ (signed_decimal g.value ++ (44 ∷ (decimal g.place ++ (10 ∷ []))))))

-- for each account, rising, the value in the last entry that gives it and that entry's place
abbrev pub account_lines : List Posted → List ℕ
account_lines es = in_turn (λ a. account_line a (last_given es a (length es))) 64

-- L,entries
abbrev pub length_line : ℕ → List ℕ
length_line n = 76 ∷ 44 ∷ (decimal n ++ (10 ∷ []))

-- E,number,leaf
abbrev pub refusal_line : BookRefusal → List ℕ
refusal_line r = 69 ∷ 44 ∷ (decimal (book_number r) ++ (44 ∷ (decimal (book_leaf r) ++ (10 ∷ []))))

-- what is printed of these entries
abbrev pub book_text : List Posted → List ℕ
book_text es = (entry_lines es ++ account_lines es) ++ length_line (length es)

-- what is printed once the bytes are checked
abbrev pub text_for : List ℕ → Result (Unit {0}) BookRefusal → List ℕ
text_for bs (Ok done) = book_text (entries_on (length bs / 160) bs)
text_for bs (Err r) = refusal_line r

-- what is printed of any bytes
abbrev pub Printed : List ℕ → List ℕ → Type 0
Printed bs text = (r : Result (Unit {0}) BookRefusal) × BookChecked bs r × (text ≡ text_for bs r)
