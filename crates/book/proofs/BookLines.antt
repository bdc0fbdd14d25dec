-- The lines of a closed book: each has room, and they come one after the other.
use Rattle.std.proofs.Common.{◌≡◌, ℕ, ◌+◌, ◌<◌, ◌≤◌, Bool, true, false, cond, leb, List, [], ◌++◌, length, take, drop, Some, None, Ok, Err, Option, Result, sym, refl, ap, ◌∙◌, append_assoc, append-nil, add-one, arith}
use Rattle.std.specs.Result.{result_unwrap_or}
use Rattle.std.proofs.lemmas.List.{take_at}
use Rattle.std.proofs.lemmas.Bool.{leb-true, le-leb}
use Rattle.journal.specs.Entries.{Posted, Lawful}
use Rattle.journal.specs.Lines.{entry_line, answer_of, line_over}
use Rattle.journal.specs.declared.lines.LineRefusal.{LineRefusal}
use Rattle.journal.specs.declared.lines.LineRefusal.TheVariants.{DoesNotFit}
use Rattle.journal.proofs.Widths.{longest_line_lem}
use Rattle.book.specs.Printed.{in_turn, line_of}

-- what an answer of a line that was written tells
fitted : (line out : List ℕ) (n room : ℕ) (b : Bool) → leb (length line) room ≡ b → Ok n ≡ cond b (Ok (length line)) (Err DoesNotFit) → (n ≡ length line) × (length line ≤ room)
fitted line out n room true t h = (cc, leb-true (length line) room t)
fitted line out n room false t h = absurd (let z : ◌≡◌ {A = ℕ} 0 1 = cc in omega arith)

-- a line that was written stands in front
line_there : (o : Option Posted) (k n : ℕ) (out after : List ℕ) → Ok n ≡ answer_of k (length out) o → after ≡ line_over k o out → (n ≤ length out) × (take n after ≡ line_of k o)
line_there None k n out after h w = absurd (let z : ◌≡◌ {A = ℕ} 0 1 = cc in omega arith)
line_there (Some e) k n out after h w =
    let line = entry_line k e in
    let f = fitted line out n (length out) (leb (length line) (length out)) refl h in
    let yes = le-leb (length line) (length out) f.1 in
    let front : after ≡ line ++ drop (length line) out = w ∙ ap (λ (b : Bool). cond b (line ++ drop (length line) out) out) yes in
    (omega (arith, f.0, f.1), ap (take n) front ∙ take_at line (drop (length line) out) n (sym f.0))

-- a line that was not written is of no entry, since every line has room
line_none : (o : Option Posted) (k room : ℕ) (r : LineRefusal) → room ≡ 372 → ((e : Posted) → o ≡ Some e → (k < 4096) × Lawful e) → Err r ≡ answer_of k room o → [] ≡ line_of k o
line_none None k room r is ok h = refl
line_none (Some e) k room r is ok h =
    let line = entry_line k e in
    let both = ok e refl in
    let yes = le-leb (length line) room (omega (arith, longest_line_lem k e both.0 both.1)) in
    let wrote : Err r ≡ Ok (length line) = h ∙ ap (λ (b : Bool). cond b (Ok (length line)) (Err DoesNotFit)) yes in
    absurd (let z : ◌≡◌ {A = ℕ} 0 1 = cc in omega arith)

-- what was written is the line of the entry, and nothing where there is no entry
pub line_written :
    (o : Option Posted) (k : ℕ) (out after : List ℕ) (r : Result ℕ LineRefusal) → length out ≡ 372 → ((e : Posted) → o ≡ Some e → (k < 4096) × Lawful e)
    → r ≡ answer_of k (length out) o → after ≡ line_over k o out → take (result_unwrap_or r 0) after ≡ line_of k o
line_written o k out after (Ok n) l ok h w = (line_there o k n out after h w).1
line_written o k out after (Err r) l ok h w = line_none o k (length out) r l ok h

pub in_turn_none : (text : ℕ → List ℕ) (start : List ℕ) → start ≡ start ++ in_turn text 0
unfolding in_turn
in_turn_none text start = sym (append-nil start)

-- one text more at the end
pub in_turn_more : (text : ℕ → List ℕ) (start before after : List ℕ) (n : ℕ) → before ≡ start ++ in_turn text n → after ≡ before ++ text n → after ≡ start ++ in_turn text (n + 1)
unfolding in_turn
in_turn_more text start before after n b a =
    a ∙ ap (λ (xs : List ℕ). xs ++ text n) b ∙ append_assoc start (in_turn text n) (text n)
    ∙ ap (λ (k : ℕ). start ++ in_turn text k) (sym (add-one n))
