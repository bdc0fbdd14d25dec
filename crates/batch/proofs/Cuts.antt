-- A text cut at its first comma or line feed.
use Rattle.std.proofs.Common.{◌≡◌, ℕ, suc, ◌+◌, ◌<◌, ◌≤◌, Bool, true, false, cond, ◌||◌, eqb, ltb, not, Option, Some, None, List, [], ◌∷◌, length, get_or, take, drop, sym, refl, ap, ◌∙◌, add-one, arith, eq-eqb, ne_eqb, eqb-true}
use borrow.Author.Tests.{ltb-false}
use Rattle.std.proofs.lemmas.List.Sums.{prefix_len-le-length}
use Rattle.std.proofs.lemmas.List.{drop_all, drop-drop, get_or-drop, length-drop, nil_from_length}
use Rattle.std.specs.Option.{unwrap_or}
use Rattle.batch.specs.declared.cutting.Cut.{Cut}
use Rattle.batch.specs.declared.cutting.Next.{Next}
use Rattle.batch.specs.declared.cutting.Next.TheVariants.{Field}
use Rattle.batch.specs.Cuts.{fields_in}
use denote.Ref.{Bor}
use Rattle.std.specs.List.{position_or_len}
use Rattle.batch.specs.Parts.{onto, lines, fields, first_line, after_line, first_field}

-- what comes after the first field's comma or line feed, and whether it was a comma

abbrev pub after_field : List ℕ → List ℕ
after_field [] = []
after_field (c ∷ cs) = cond (eqb c 44) cs (cond (eqb c 10) cs (after_field cs))

abbrev pub more_fields : List ℕ → Bool
more_fields [] = false
more_fields (c ∷ cs) = cond (eqb c 44) true (cond (eqb c 10) false (more_fields cs))

-- the first field ends at the first of these bytes

abbrev pub stops : ℕ → Bool
stops c = eqb c 44 || eqb c 10

field_place : (s : List ℕ) → position_or_len stops s ≡ length (first_field s)
field_place [] = refl
field_place (c ∷ cs) =
    let P : Bool → Bool → Type 0 = λ a b. cond (not (a || b)) (1 + position_or_len stops cs) 0 ≡ length (cond a [] (cond b [] (c ∷ first_field cs))) in
    elim (eqb c 44) as (λ a. P a (eqb c 10)) [
      | true ↦ refl
      | false ↦ (elim (eqb c 10) as (λ b. P false b) [ true ↦ refl | false ↦ omega (arith, field_place cs) ])
    ]

pub at_place : (s : List ℕ) (r : Option ℕ) → r ≡ cond (ltb (position_or_len stops s) (length s)) (Some (position_or_len stops s)) None
    → unwrap_or r (length s) ≡ length (first_field s)
at_place s r e = go (ltb (position_or_len stops s) (length s)) refl ∙ field_place s
  where
    go : (b : Bool) → ltb (position_or_len stops s) (length s) ≡ b → unwrap_or r (length s) ≡ position_or_len stops s
    go true h = ap (λ x. unwrap_or x (length s)) (e ∙ ap (λ (b : Bool). cond b (Some (position_or_len stops s)) None) h)
    go false h = ap (λ x. unwrap_or x (length s)) (e ∙ ap (λ (b : Bool). cond b (Some (position_or_len stops s)) None) h) ∙ omega (arith, ltb-false (position_or_len stops s) (length s) h, prefix_len-le-length (λ c. not (stops c)) s)

-- the first field by its length

pub field_take : (s : List ℕ) → take (length (first_field s)) s ≡ first_field s
field_take [] = refl
field_take (c ∷ cs) =
    let P : Bool → Bool → Type 0 = λ a b. take (length (cond a [] (cond b [] (c ∷ first_field cs)))) (c ∷ cs) ≡ cond a [] (cond b [] (c ∷ first_field cs)) in
    elim (eqb c 44) as (λ a. P a (eqb c 10)) [
      | true ↦ refl
      | false ↦ (elim (eqb c 10) as (λ b. P false b) [ true ↦ refl | false ↦ ap (λ l. c ∷ l) (field_take cs) ])
    ]

pub after_drop : (s : List ℕ) → after_field s ≡ drop (length (first_field s) + 1) s
after_drop [] = sym (drop_all 1 [] (omega arith))
after_drop (c ∷ cs) =
    let P : Bool → Bool → Type 0 = λ a b. cond a cs (cond b cs (after_field cs)) ≡ drop (length (cond a [] (cond b [] (c ∷ first_field cs))) + 1) (c ∷ cs) in
    elim (eqb c 44) as (λ a. P a (eqb c 10)) [
      | true ↦ refl
      | false ↦ (elim (eqb c 10) as (λ b. P false b) [ true ↦ refl | false ↦ rw add-one (after_drop cs ∙ rw add-one refl) ])
    ]

pub more_at : (s : List ℕ) → length (first_field s) < length s → more_fields s ≡ eqb (get_or s (length (first_field s)) 0) 44
more_at [] h = absurd (omega arith)
more_at (c ∷ cs) h =
    let P : Bool → Bool → Type 0 = λ a b. eqb c 44 ≡ a → length (cond a [] (cond b [] (c ∷ first_field cs))) < suc (length cs)
    → cond a true (cond b false (more_fields cs)) ≡ eqb (get_or (c ∷ cs) (length (cond a [] (cond b [] (c ∷ first_field cs)))) 0) 44 in
    (elim (eqb c 44) as (λ a. P a (eqb c 10)) [
      | true ↦ λ e k. sym e
      | false ↦ (elim (eqb c 10) as (λ b. P false b) [ true ↦ λ e k. sym e | false ↦ λ e k. more_at cs (omega arith) ])
    ]) refl h

pub more_none : (s : List ℕ) → length s ≤ length (first_field s) → more_fields s ≡ false
more_none [] h = refl
more_none (c ∷ cs) h =
    let P : Bool → Bool → Type 0 = λ a b. suc (length cs) ≤ length (cond a [] (cond b [] (c ∷ first_field cs))) → cond a true (cond b false (more_fields cs)) ≡ false in
    (elim (eqb c 44) as (λ a. P a (eqb c 10)) [
      | true ↦ λ k. absurd (omega arith)
      | false ↦ (elim (eqb c 10) as (λ b. P false b) [ true ↦ λ k. absurd (omega arith) | false ↦ λ k. more_none cs (omega arith) ])
    ]) h

-- the fields of the first line, one by one
pub fields_more : (s : List ℕ) → fields (first_line s) ≡ first_field s ∷ cond (more_fields s) (fields (first_line (after_field s))) []
fields_more [] = refl
fields_more (c ∷ cs) = go (eqb c 44) (eqb c 10) refl refl (fields_more cs)
  where
    go : (a b : Bool) → eqb c 44 ≡ a → eqb c 10 ≡ b → fields (first_line cs) ≡ first_field cs ∷ cond (more_fields cs) (fields (first_line (after_field cs))) []
        → fields (cond b [] (c ∷ first_line cs)) ≡ cond a [] (cond b [] (c ∷ first_field cs)) ∷ cond (cond a true (cond b false (more_fields cs))) (fields (first_line (cond a cs (cond b cs (after_field cs))))) []
    go true true e f h = absurd (omega (arith, eqb-true c 44 e, eqb-true c 10 f))
    go true false e f h = ap (λ x. cond x ([] ∷ fields (first_line cs)) (onto c (fields (first_line cs)))) e
    go false true e f h = refl
    go false false e f h = ap (λ x. cond x ([] ∷ fields (first_line cs)) (onto c (fields (first_line cs)))) e ∙ ap (onto c) h

-- a text's first line ends with its last field
pub after_more : (s : List ℕ) → after_line s ≡ cond (more_fields s) (after_line (after_field s)) (after_field s)
after_more [] = refl
after_more (c ∷ cs) = go (eqb c 44) (eqb c 10) refl refl (after_more cs)
  where
    go : (a b : Bool) → eqb c 44 ≡ a → eqb c 10 ≡ b → after_line cs ≡ cond (more_fields cs) (after_line (after_field cs)) (after_field cs)
        → cond b cs (after_line cs) ≡ cond (cond a true (cond b false (more_fields cs))) (after_line (cond a cs (cond b cs (after_field cs)))) (cond a cs (cond b cs (after_field cs)))
    go true true e f h = absurd (omega (arith, eqb-true c 44 e, eqb-true c 10 f))
    go true false e f h = refl
    go false true e f h = refl
    go false false e f h = h

-- a cut by place is the cut of a field

pub cut_fields : (s field rest : List ℕ) (more : Bool) → field ≡ first_field s → rest ≡ after_field s → more ≡ more_fields s
    → fields (first_line s) ≡ field ∷ cond more (fields (first_line rest)) []
cut_fields s field rest more e f g = let h = fields_more s in cc

pub cut_after : (s rest : List ℕ) (more : Bool) → rest ≡ after_field s → more ≡ more_fields s → after_line s ≡ cond more (after_line rest) rest
cut_after s rest more f g = let h = after_more s in cc

after_all : (s : List ℕ) → length s ≤ length (first_field s) → after_field s ≡ []
after_all s h = after_drop s ∙ drop_all (length (first_field s) + 1) s (omega arith)

field_there : (s : List ℕ) (n : ℕ) → n ≡ length (first_field s) → take n s ≡ first_field s
field_there s n e = ap (λ k. take k s) e ∙ field_take s

after_there : (s rest tail : List ℕ) (n : ℕ) → n ≡ length (first_field s) → rest ≡ drop n s → tail ≡ drop 1 rest → tail ≡ after_field s
after_there s rest tail n e r t = t ∙ ap (drop 1) r ∙ drop-drop 1 n s ∙ ap (λ k. drop k s) (omega (arith, e)) ∙ sym (after_drop s)

more_there : (s rest : List ℕ) (n : ℕ) → n ≡ length (first_field s) → rest ≡ drop n s → 0 < length rest → more_fields s ≡ eqb (get_or rest 0 0) 44
more_there s rest n e r l =
    let h : n < length s = omega (arith, ap length r, length-drop n s) in
    let at : get_or rest 0 0 ≡ get_or s n 0 = ap (λ x. get_or x 0 0) r ∙ get_or-drop n s 0 0 ∙ ap (λ k. get_or s k 0) (omega arith) in
    more_at s (omega (arith, e)) ∙ ap (λ k. eqb (get_or s k 0) 44) (sym e) ∙ ap (λ x. eqb x 44) (sym at)

-- a text cut at the end of its first field, by what stands there

pub cut_more : (s field rest tail : List ℕ) (n : ℕ) → n ≡ length (first_field s) → field ≡ take n s → rest ≡ drop n s → 0 < length rest → get_or rest 0 0 ≡ 44 → tail ≡ drop 1 rest
    → (fields (first_line s) ≡ field ∷ fields (first_line tail)) × (after_line s ≡ after_line tail)
cut_more s field rest tail n e f r l c t =
    let more : true ≡ more_fields s = sym (eq-eqb (get_or rest 0 0) 44 c) ∙ sym (more_there s rest n e r l) in
    (cut_fields s field tail true (f ∙ field_there s n e) (after_there s rest tail n e r t) more, cut_after s tail true (after_there s rest tail n e r t) more)

pub cut_line : (s field rest tail : List ℕ) (n : ℕ) → n ≡ length (first_field s) → field ≡ take n s → rest ≡ drop n s → 0 < length rest → (get_or rest 0 0 ≡ 44 → ⊥) → tail ≡ drop 1 rest
    → (fields (first_line s) ≡ field ∷ []) × (after_line s ≡ tail)
cut_line s field rest tail n e f r l c t =
    let more : false ≡ more_fields s = sym (ne_eqb (get_or rest 0 0) 44 c) ∙ sym (more_there s rest n e r l) in
    (cut_fields s field tail false (f ∙ field_there s n e) (after_there s rest tail n e r t) more, cut_after s tail false (after_there s rest tail n e r t) more)

pub cut_end : (s field rest : List ℕ) (n : ℕ) → n ≡ length (first_field s) → field ≡ take n s → rest ≡ drop n s → length rest ≡ 0 → (fields (first_line s) ≡ field ∷ []) × (after_line s ≡ rest)
cut_end s field rest n e f r z =
    let h : length s ≤ length (first_field s) = omega (arith, ap length r, length-drop n s) in
    let more : false ≡ more_fields s = sym (more_none s h) in
    let after : rest ≡ after_field s = nil_from_length rest z ∙ sym (after_all s h) in
    (cut_fields s field rest false (f ∙ field_there s n e) after more, cut_after s rest false after more)

-- a line with more than three fields after its mark
pub four_fields : (next : Next) (a b c : Cut) (t u v w : Bor (List ℕ)) → next ≡ Field t → a.next ≡ Field u → b.next ≡ Field v → c.next ≡ Field w
    → fields (first_line t.now) ≡ a.field.now ∷ fields_in a.next → fields (first_line u.now) ≡ b.field.now ∷ fields_in b.next → fields (first_line v.now) ≡ c.field.now ∷ fields_in c.next
    → 4 ≤ length (fields_in next)
four_fields next a b c t u v w e f g h i j k =
    let m : fields_in next ≡ a.field.now ∷ b.field.now ∷ c.field.now ∷ fields (first_line w.now) =
    ap fields_in e ∙ i ∙ ap (λ l. a.field.now ∷ l) (ap fields_in f ∙ j ∙ ap (λ l. b.field.now ∷ l) (ap fields_in g ∙ k ∙ ap (λ l. c.field.now ∷ l) (ap fields_in h))) in
    omega (arith, ap length m, ap length (fields_more w.now))

-- the lines of a text, one by one
pub lines_more : (s : List ℕ) → 0 < length s → lines s ≡ first_line s ∷ lines (after_line s)
lines_more [] h = absurd (omega arith)
lines_more (c ∷ []) h = go (eqb c 10)
  where
    go : (b : Bool) → cond b ([] ∷ []) ((c ∷ []) ∷ []) ≡ cond b [] (c ∷ []) ∷ lines (cond b [] [])
    go true = refl
    go false = refl
lines_more (c ∷ d ∷ cs) h = go (eqb c 10) (lines_more (d ∷ cs) (omega arith))
  where
    go : (b : Bool) → lines (d ∷ cs) ≡ first_line (d ∷ cs) ∷ lines (after_line (d ∷ cs))
        → cond b ([] ∷ lines (d ∷ cs)) (onto c (lines (d ∷ cs))) ≡ cond b [] (c ∷ first_line (d ∷ cs)) ∷ lines (cond b (d ∷ cs) (after_line (d ∷ cs)))
    go true k = refl
    go false k = ap (onto c) k

pub after_less : (s : List ℕ) → 0 < length s → length (after_line s) < length s
after_less [] h = absurd (omega arith)
after_less (c ∷ []) h = go (eqb c 10)
  where
    go : (b : Bool) → length {A = ℕ} (cond b [] []) < 1
    go true = omega arith
    go false = omega arith
after_less (c ∷ d ∷ cs) h = go (eqb c 10) (after_less (d ∷ cs) (omega arith))
  where
    go : (b : Bool) → length (after_line (d ∷ cs)) < length (d ∷ cs) → length (cond b (d ∷ cs) (after_line (d ∷ cs))) < suc (length (d ∷ cs))
    go true k = omega arith
    go false k = omega arith
