-- What filing answers, and the records after one more.
use Rattle.std.proofs.Common.{◌≡◌, ℕ, ◌<◌, min, Bool, true, false, refl, cond, eqb, ltb, List, [], ◌∷◌, ◌++◌, map, length, take, Ok, Err, Result, sym, ap, ◌∙◌, arith}
use Rattle.std.proofs.lemmas.Bool.Decides.{nat_tests}
use Rattle.std.proofs.lemmas.List.{length-map, length-take, length_push, take_all, map_push}
use Rattle.journal.specs.Entries.{posted, is_entry}
use Rattle.journal.specs.Filing.{filing}
use Rattle.roll.specs.Rolls.{items, capacity_of}
use Rattle.journal.specs.Stores.{cell_entries, cell_size}
use Rattle.journal.specs.declared.cells.Cells.{Cells}
use Rattle.journal.specs.declared.entry.Entry.{Entry}
use Rattle.journal.specs.declared.journals.FilingRefusal.{FilingRefusal}
use Rattle.journal.specs.declared.journals.FilingRefusal.TheVariants.{NotAnEntry, NotAtTheEnd, Full}

-- the three tests, over what the first of them found
abbrev tested : Bool → ℕ → ℕ → ℕ → Result (Unit {0}) FilingRefusal
tested b p l s = cond b (cond (eqb p l) (cond (ltb l s) (Ok tt) (Err Full)) (Err NotAtTheEnd)) (Err NotAnEntry)

pub length_records : (xs : List Entry) → length (map posted (take 4096 xs)) ≡ min 4096 (length xs)
length_records xs = length-map (take 4096 xs) posted ∙ length-take 4096 xs

-- what passed the three tests
pub record CanBeFiled (e : Entry) (place len size : ℕ) : Type 0 where
  pub entry : true ≡ is_entry e
  pub end : place ≡ len
  pub room : len < size

passed : (b : Bool) (p l s : ℕ) → Ok tt ≡ tested b p l s → (true ≡ b) × (p ≡ l) × (l < s)
passed true p l s h = (refl, grind (arith, nat_tests), grind (arith, nat_tests))
passed false p l s h = absurd (grind arith)

pub can_be_filed : (e : Entry) (p l s : ℕ) → Ok tt ≡ filing e p l s → CanBeFiled e p l s
can_be_filed e p l s h =
    let all = passed (is_entry e) p l s h in
    record { entry = all.0; end = all.1; room = all.2 }

-- what can be filed in records has a free one, and the roll's items are the entries
pub record HasRoom (c : Cells) : Type 0 where
  pub below : length (items c.roll) < 4096
  pub free : length (items c.roll) < capacity_of c.roll
  pub all : length (items c.roll) ≡ length (cell_entries c)

pub room_to_file : (c : Cells) (e : Entry) (p : ℕ) → Ok tt ≡ filing e p (length (cell_entries c)) (cell_size c) → HasRoom c
room_to_file c e p h =
    let room = (can_be_filed e p (length (cell_entries c)) (cell_size c) h).room in
    let long = length_records (items c.roll) in
    record { below = omega arith; free = omega arith; all = omega arith }

pub records_push : (xs ys : List Entry) (e : Entry) → length xs < 4096 → ys ≡ xs ++ e ∷ [] → map posted (take 4096 ys) ≡ map posted (take 4096 xs) ++ posted e ∷ []
records_push xs ys e h is =
    ap (λ (zs : List Entry). map posted (take 4096 zs)) is
    ∙ ap (map posted) (take_all 4096 (xs ++ e ∷ []) (simp length_push (omega arith)))
    ∙ map_push posted xs e
    ∙ ap (λ (zs : List Entry). map posted zs ++ posted e ∷ []) (sym (take_all 4096 xs (omega arith)))
