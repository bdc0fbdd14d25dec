-- The tables after each line.
use Rattle.std.proofs.Common.{◌≡◌, ℕ, ◌+◌, ◌<◌, Bool, true, false, cond, ◌||◌, eqb, ltb, List, [], ◌∷◌, ◌++◌, length, drop, Ok, Err, Result, sym, refl, ap, ◌∙◌, subst, arith}
use Rattle.std.proofs.lemmas.List.{append_assoc, append-nil, length-append, drop-drop}
use Rattle.roll.specs.declared.Roll.{Roll}
use Rattle.roll.specs.Rolls.{items, unused, cells_of, capacity_of}
use Rattle.batch.specs.declared.items.Item.{Item}
use Rattle.batch.specs.declared.items.Item.TheVariants.{Begins, Opened, Kept, Posts, Orders, Runs}
use Rattle.batch.specs.declared.items.BatchRefusal.{BatchRefusal}
use Rattle.batch.specs.declared.items.BatchRefusal.TheVariants.{Size, End}
use Rattle.batch.specs.declared.progress.Progress.{Progress}
use Rattle.batch.specs.declared.progress.Sizes.{Sizes}
use Rattle.batch.specs.declared.items.Fault.{Fault}
use Rattle.batch.specs.declared.items.Fault.TheVariants.{Form}
use Rattle.batch.specs.declared.judging.Judged.{Judged}
use Rattle.batch.specs.Judging.{Accepts}
use Rattle.batch.specs.Parts.{lines, fields, first_line}
use Rattle.batch.specs.Plans.{planned}
use Rattle.batch.specs.Progress.{sofar, houses_in, workers_in}
use Rattle.batch.specs.Reading.{said, closes, ended, batch, answered}
use Rattle.batch.specs.Rules.{judged}
use Rattle.batch.specs.Tables.{Grown, Anew, Tabled}
use Rattle.batch.specs.Refusals.{refusal_at}
use Rattle.batch.proofs.Said.{all_said, step_err}

-- records at the end, one lot after the other

pub grown_none : {X : Type 0} (r : Roll X) → Grown [] r r
grown_none r = record { list = sym (append-nil (items r)); free = refl; size = refl; lender = refl }

pub grown_more : {X : Type 0} (xs ys : List X) (a b c : Roll X) → Grown xs a b → Grown ys b c → Grown (xs ++ ys) a c
grown_more xs ys a b c g h = record {
  list = h.list ∙ ap (λ l. l ++ ys) g.list ∙ append_assoc (items a) xs ys;
  free = h.free ∙ ap (drop (length ys)) g.free ∙ drop-drop (length ys) (length xs) (unused a) ∙ ap (λ k. drop k (unused a)) (sym (length-append xs ys));
  size = h.size ∙ g.size;
  lender = h.lender ∙ g.lender;
}

-- records in a roll that was cleared make it anew
pub anew : {X : Type 0} (xs : List X) (before cleared after : Roll X) → items cleared ≡ [] → unused cleared ≡ cells_of before → capacity_of cleared ≡ capacity_of before
    → cleared.cells.ghost_name ≡ before.cells.ghost_name → Grown xs cleared after → Anew xs before after
anew xs before cleared after a b c d g = record {
  list = g.list ∙ ap (λ l. l ++ xs) a;
  free = g.free ∙ ap (drop (length xs)) b;
  size = g.size ∙ c;
  lender = g.lender ∙ d;
}

-- the plan has the houses and the workers of the first line

pub planned_houses : (past : List Item) → (planned past).houses ≡ houses_in past
planned_houses [] = refl
planned_houses (Begins h ∷ past) = refl
planned_houses (Opened o ∷ past) = planned_houses past
planned_houses (Kept k ∷ past) = planned_houses past
planned_houses (Posts ∷ past) = planned_houses past
planned_houses (Orders o ∷ past) = planned_houses past
planned_houses (Runs r ∷ past) = planned_houses past

pub planned_workers : (past : List Item) → (planned past).workers ≡ workers_in past
planned_workers [] = refl
planned_workers (Begins h ∷ past) = refl
planned_workers (Opened o ∷ past) = planned_workers past
planned_workers (Kept k ∷ past) = planned_workers past
planned_workers (Posts ∷ past) = planned_workers past
planned_workers (Orders o ∷ past) = planned_workers past
planned_workers (Runs r ∷ past) = planned_workers past

-- an accepted batch

ended_ok : (text : List ℕ) (r : Result (List Item) BatchRefusal) → answered (ended text r) ≡ Ok tt → (past : List Item) × (r ≡ Ok past) × (ended text r ≡ Ok past)
ended_ok text (Err e) h = absurd (let z : ◌≡◌ {A = ℕ} 0 1 = cc in omega arith)
ended_ok text (Ok past) h = (past, refl, go (closes text past) h)
  where
    go : (b : Bool) → answered (cond b (Ok past) (Err (End (length past)))) ≡ Ok tt → cond b (Ok past) (Err (End (length past))) ≡ Ok past
    go true k = refl
    go false k = absurd (let z : ◌≡◌ {A = ℕ} 0 1 = cc in omega arith)

pub batch_ok : (t : Sizes) (text : List ℕ) → answered (batch t text) ≡ Ok tt → (past : List Item) × (said t [] (lines text) ≡ Ok past) × (batch t text ≡ Ok past)
batch_ok t text h = go (eqb (length text) 0 || ltb 32768 (length text)) h
  where
    go : (b : Bool) → answered (cond b (Err Size) (ended text (said t [] (lines text)))) ≡ Ok tt
        → (past : List Item) × (said t [] (lines text) ≡ Ok past) × (cond b (Err Size) (ended text (said t [] (lines text))) ≡ Ok past)
    go true k = absurd (let z : ◌≡◌ {A = ℕ} 0 1 = cc in omega arith)
    go false k = ended_ok text (said t [] (lines text)) k

-- all lines of an accepted batch were said
pub said_all : (t : Sizes) (text rest : List ℕ) (past : List Item) → answered (batch t text) ≡ Ok tt → said t past (lines rest) ≡ said t [] (lines text) → length rest ≡ 0 → batch t text ≡ Ok past
said_all t text rest past h w e =
    let q = batch_ok t text h in
    let same : past ≡ q.0 = ok_same past q.0 (sym (all_said t past rest e) ∙ w ∙ q.1) in
    q.2 ∙ ap Ok (sym same)
  where
    ok_same : (p q : List Item) → ◌≡◌ {A = Result (List Item) BatchRefusal} (Ok p) (Ok q) → p ≡ q
    ok_same p q e = cc

-- no line of an accepted batch is refused
pub never_refused : (t : Sizes) (k : Progress) (past : List Item) (text rest : List ℕ) (f : Fault) → answered (batch t text) ≡ Ok tt
    → said t past (lines rest) ≡ said t [] (lines text) → k ≡ sofar past → 0 < length rest → judged t k (fields (first_line rest)) ≡ Err f → ⊥
never_refused t k past text rest f h w e l j =
    let q = batch_ok t text h in
    let z : Err (refusal_at (length past + 1) f) ≡ Ok q.0 = sym (step_err t k past rest f e l j) ∙ w ∙ q.1 in
    let n : ◌≡◌ {A = ℕ} 0 1 = cc in
    omega arith

-- what a table says of an accepted batch
pub tabled : {X : Type 0} (table : List Item → List X) (r : Result (List Item) BatchRefusal) (past : List Item) (before after : Roll X) → r ≡ Ok past → Anew (table past) before after
    → Tabled table r before after
tabled table r past before after e a = subst (λ x. Tabled table x before after) (sym e) a

-- a cleared roll holds just what came
pub grown_length : {X : Type 0} (xs : List X) (cleared after : Roll X) → items cleared ≡ [] → Grown xs cleared after → length (items after) ≡ length xs
grown_length xs cleared after e g = ap length (g.list ∙ ap (λ l. l ++ xs) e)

pub grown_same : {X : Type 0} (xs ys : List X) (a b : Roll X) → xs ≡ ys → Grown xs a b → Grown ys a b
grown_same xs ys a b e g = subst (λ l. Grown l a b) e g

-- a text with nothing left has no mark
pub some_left : (t : Sizes) (k : Progress) (text : List ℕ) (j : Judged) → Accepts t k text j → 0 < length text
some_left t k [] j a = absurd (let x : Err Form ≡ Ok j.item = a.item in let z : ◌≡◌ {A = ℕ} 0 1 = cc in omega arith)
some_left t k (c ∷ cs) j a = omega arith

pub nothing_left : (t : Sizes) (k : Progress) (past : List Item) (text rest : List ℕ) (f : Fault) → answered (batch t text) ≡ Ok tt
    → said t past (lines rest) ≡ said t [] (lines text) → k ≡ sofar past → judged t k (fields (first_line rest)) ≡ Err f → length rest ≡ 0
nothing_left t k past text [] f h w e j = refl
nothing_left t k past text (c ∷ cs) f h w e j = absurd (never_refused t k past text (c ∷ cs) f h w e (omega arith) j)
