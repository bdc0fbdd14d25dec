-- A text line by line.
use Rattle.std.proofs.Common.{◌≡◌, ℕ, ◌+◌, ◌-◌, ◌<◌, ◌≤◌, Bool, true, false, cond, ◌||◌, ◌&&◌, drop, eqb-true, eqb, ltb, List, [], ◌∷◌, ◌++◌, length, get_or, Ok, Err, Result, sym, refl, ap, ◌∙◌, arith, le-ltb, eq-eqb, ne_eqb}
use Rattle.std.specs.List.{ends_with}
use Rattle.std.specs.Cmp.Lexicographic.{pointwise}
use Rattle.std.proofs.lemmas.List.{drop_more, drop_all, length-append, append-nil, nil_from_length}
use Rattle.std.proofs.lemmas.Bool.{and_parts, and_from, and_left, and_right}
use Rattle.batch.specs.declared.items.Item.{Item}
use Rattle.batch.specs.declared.items.Item.TheVariants.{Begins, Opened, Kept, Posts, Orders, Runs}
use Rattle.batch.specs.declared.items.Fault.{Fault}
use Rattle.batch.specs.declared.items.BatchRefusal.{BatchRefusal}
use Rattle.batch.specs.declared.items.BatchRefusal.TheVariants.{Size, End}
use Rattle.batch.specs.declared.progress.Progress.{Progress}
use Rattle.batch.specs.declared.progress.Sizes.{Sizes}
use Rattle.batch.specs.Parts.{lines, fields, first_line, after_line}
use Rattle.batch.specs.Progress.{sofar, entered}
use Rattle.batch.specs.Reading.{said, closes, ended, batch_of_any_length, batch}
use Rattle.batch.specs.Refusals.{refusal_at}
use Rattle.batch.specs.Rules.{judged}
use Rattle.batch.specs.Tables.{seen_in, postings_in, orders_in, runs_in, posting_of}
use Rattle.batch.proofs.Cuts.{lines_more}

-- the lengths of the tables after one more line

with_lengths : (s : Progress) (p o r : ℕ) → Progress
with_lengths s p o r =
    record { stage = s.stage; houses = s.houses; workers = s.workers; seen = s.seen; account = s.account; here = s.here; lines = s.lines; postings = p; orders = o; runs = r }

same_lengths : (s : Progress) (p q o u r v : ℕ) → p ≡ q → o ≡ u → r ≡ v → with_lengths s p o r ≡ with_lengths s q u v
same_lengths s p q o u r v e f g = cc

longer : {X : Type 0} (xs ys : List X) (n : ℕ) → length ys ≡ n → length xs + n ≡ length (xs ++ ys)
longer xs ys n e = omega (arith, length-append xs ys)

as_long : {X : Type 0} (xs : List X) → length xs ≡ length (xs ++ [])
as_long xs = ap length (sym (append-nil xs))

-- what is known after one more line
pub entered_more : (past : List Item) (i : Item) → entered (sofar past) i ≡ sofar (i ∷ past)
unfolding with_lengths
entered_more past (Begins h) = same_lengths (sofar (Begins h ∷ past)) _ _ _ _ _ _ (as_long (postings_in past)) (as_long (orders_in past)) (as_long (runs_in past))
entered_more past (Opened o) = same_lengths (sofar (Opened o ∷ past)) _ _ _ _ _ _ (as_long (postings_in past)) (as_long (orders_in past)) (as_long (runs_in past))
entered_more past (Kept k) = same_lengths (sofar (Kept k ∷ past)) _ _ _ _ _ _ (as_long (postings_in past)) (as_long (orders_in past)) (as_long (runs_in past))
entered_more past Posts =
    same_lengths (sofar (Posts ∷ past)) _ _ _ _ _ _ (longer (postings_in past) (posting_of (seen_in past) (length (orders_in past)) Posts) 1 refl) (as_long (orders_in past)) (as_long (runs_in past))
entered_more past (Orders o) = same_lengths (sofar (Orders o ∷ past)) _ _ _ _ _ _ (as_long (postings_in past)) (longer (orders_in past) (o ∷ []) 1 refl) (as_long (runs_in past))
entered_more past (Runs r) = same_lengths (sofar (Runs r ∷ past)) _ _ _ _ _ _ (as_long (postings_in past)) (as_long (orders_in past)) (longer (runs_in past) (r ∷ []) 1 refl)

pub known_more : (k n : Progress) (past : List Item) (i : Item) → k ≡ sofar past → n ≡ entered k i → n ≡ sofar (i ∷ past)
known_more k n past i e h = h ∙ ap (λ s. entered s i) e ∙ entered_more past i

-- one more line is accepted or refused

pub said_ok : (t : Sizes) (past : List Item) (l : List ℕ) (ls : List (List ℕ)) (i : Item) → judged t (sofar past) (fields l) ≡ Ok i → said t past (l ∷ ls) ≡ said t (i ∷ past) ls
said_ok t past l ls i e =
    let next : Result Item Fault → Result (List Item) BatchRefusal = λ r. elim r [ Ok j ↦ said t (j ∷ past) ls | Err f ↦ Err (refusal_at (length past + 1) f) ] in
    ap next e

said_err : (t : Sizes) (past : List Item) (l : List ℕ) (ls : List (List ℕ)) (f : Fault) → judged t (sofar past) (fields l) ≡ Err f
    → said t past (l ∷ ls) ≡ Err (refusal_at (length past + 1) f)
said_err t past l ls f e =
    let next : Result Item Fault → Result (List Item) BatchRefusal = λ r. elim r [ Ok j ↦ said t (j ∷ past) ls | Err f ↦ Err (refusal_at (length past + 1) f) ] in
    ap next e

pub step_ok : (t : Sizes) (k : Progress) (past : List Item) (rest next : List ℕ) (i : Item) → k ≡ sofar past → 0 < length rest → judged t k (fields (first_line rest)) ≡ Ok i
    → next ≡ after_line rest → said t (i ∷ past) (lines next) ≡ said t past (lines rest)
step_ok t k past rest next i e h j n =
    ap (λ x. said t (i ∷ past) (lines x)) n
    ∙ sym (said_ok t past (first_line rest) (lines (after_line rest)) i (ap (λ s. judged t s (fields (first_line rest))) (sym e) ∙ j))
    ∙ ap (said t past) (sym (lines_more rest h))

pub step_err : (t : Sizes) (k : Progress) (past : List Item) (rest : List ℕ) (f : Fault) → k ≡ sofar past → 0 < length rest → judged t k (fields (first_line rest)) ≡ Err f
    → said t past (lines rest) ≡ Err (refusal_at (length past + 1) f)
step_err t k past rest f e h j =
    ap (said t past) (lines_more rest h)
    ∙ said_err t past (first_line rest) (lines (after_line rest)) f (ap (λ s. judged t s (fields (first_line rest))) (sym e) ∙ j)

pub all_said : (t : Sizes) (past : List Item) (rest : List ℕ) → length rest ≡ 0 → said t past (lines rest) ≡ Ok past
all_said t past rest e = ap (λ r. said t past (lines r)) (nil_from_length rest e)

-- the whole text

-- its length apart, a batch is read as a text of any length
pub batch_is : (t : Sizes) (text : List ℕ) → batch t text ≡ cond (ltb 32768 (length text)) (Err Size) (batch_of_any_length t text)
batch_is t text = go (eqb (length text) 0) (ltb 32768 (length text)) (ended text (said t [] (lines text)))
  where
    go : (a b : Bool) (r : Result (List Item) BatchRefusal) → cond (a || b) (Err Size) r ≡ cond b (Err Size) (cond a (Err Size) r)
    go true true r = refl
    go true false r = refl
    go false true r = refl
    go false false r = refl

pub any_lines : (t : Sizes) (text : List ℕ) → 0 < length text → batch_of_any_length t text ≡ ended text (said t [] (lines text))
any_lines t text l = ap (λ (b : Bool). cond b (Err Size) (ended text (said t [] (lines text)))) (ne_eqb (length text) 0 (λ z. omega arith))

pub batch_lines : (t : Sizes) (text : List ℕ) → 0 < length text → length text ≤ 32768 → batch t text ≡ ended text (said t [] (lines text))
batch_lines t text l h = batch_is t text ∙ ap (λ (b : Bool). cond b (Err Size) (batch_of_any_length t text)) (le-ltb 32768 (length text) h) ∙ any_lines t text l

pub batch_refused : (t : Sizes) (k : Progress) (past : List Item) (text rest : List ℕ) (f : Fault) → 0 < length text → length text ≤ 32768
    → said t past (lines rest) ≡ said t [] (lines text) → k ≡ sofar past → 0 < length rest → judged t k (fields (first_line rest)) ≡ Err f
    → batch t text ≡ Err (refusal_at (length past + 1) f)
batch_refused t k past text rest f a b w e h j = batch_lines t text a b ∙ ap (ended text) (sym w ∙ step_err t k past rest f e h j)

pub batch_ended : (t : Sizes) (past : List Item) (text rest : List ℕ) → 0 < length text → length text ≤ 32768 → said t past (lines rest) ≡ said t [] (lines text) → length rest ≡ 0
    → batch t text ≡ cond (closes text past) (Ok past) (Err (End (length past)))
batch_ended t past text rest a b w e = batch_lines t text a b ∙ ap (ended text) (sym w ∙ all_said t past rest e)

pub closes_open : (text : List ℕ) (past : List Item) → (get_or text (length text - 1) 0 ≡ 10 → ⊥) → closes text past ≡ false
closes_open text past h = and_left _ _ (ne_eqb (get_or text (length text - 1) 0) 10 h)

pub closes_missing : (text : List ℕ) (past : List Item) (k : Progress) → k ≡ sofar past → (k.seen ≡ k.houses → ⊥) → closes text past ≡ false
closes_missing text past k e h =
    and_right (eqb (get_or text (length text - 1) 0) 10) _ (ne_eqb (sofar past).seen (sofar past).houses (λ z. h (ap (λ x. x.seen) e ∙ z ∙ ap (λ x. x.houses) (sym e))))

pub closes_well : (text : List ℕ) (past : List Item) (k : Progress) → k ≡ sofar past → get_or text (length text - 1) 0 ≡ 10 → k.seen ≡ k.houses → closes text past ≡ true
closes_well text past k e f h =
    and_from _ _ (eq-eqb (get_or text (length text - 1) 0) 10 f) (eq-eqb (sofar past).seen (sofar past).houses (ap (λ x. x.seen) (sym e) ∙ h ∙ ap (λ x. x.houses) e))

-- a text that ends with a line feed has it as its last byte
ends_last : (text : List ℕ) → 0 < length text → drop (length text - 1) text ≡ get_or text (length text - 1) 0 ∷ []
ends_last text h =
    drop_more text (length text - 1) 0 (omega arith)
    ∙ ap (λ l. get_or text (length text - 1) 0 ∷ l) (drop_all (length text - 1 + 1) text (omega arith))

pub ends_feed : (text : List ℕ) (b : Bool) → 0 < length text → b ≡ ends_with eqb text (10 ∷ []) → b ≡ true → get_or text (length text - 1) 0 ≡ 10
ends_feed text b h e t =
    let f : (eqb 10 (get_or text (length text - 1) 0) && true) ≡ true = ap (λ l. pointwise eqb (10 ∷ []) l) (sym (ends_last text h)) ∙ sym e ∙ t in
    sym (eqb-true 10 _ (and_parts _ _ f).0)

pub ends_open : (text : List ℕ) (b : Bool) → 0 < length text → b ≡ ends_with eqb text (10 ∷ []) → b ≡ false → get_or text (length text - 1) 0 ≡ 10 → ⊥
ends_open text b h e t k =
    let f : (eqb 10 (get_or text (length text - 1) 0) && true) ≡ false = ap (λ l. pointwise eqb (10 ∷ []) l) (sym (ends_last text h)) ∙ sym e ∙ t in
    let g : (eqb 10 (get_or text (length text - 1) 0) && true) ≡ true = ap (λ x. eqb 10 x && true) k in
    let z : true ≡ false = sym g ∙ f in
    let n : ◌≡◌ {A = ℕ} 0 1 = cc in
    omega arith
