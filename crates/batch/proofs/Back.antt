-- What is read is what is written, line by line.
use Rattle.std.proofs.Common.{◌≡◌, ℕ, zero, suc, ◌+◌, ◌-◌, ◌<◌, ◌≤◌, min, Bool, true, false, cond, ◌&&◌, eqb, ltb, leb, List, [], ◌∷◌, ◌++◌, length, get_or, ℤ, pos, neg_ℤ, Some, None, Ok, Err, decimal, Option, Result, sym, refl, ap, ◌∙◌, subst, arith, eq-eqb, eqb-true}
use native.Mathlib.Numerals.{unary_clauses}
use Rattle.std.specs.Option.{option_map}
use Rattle.std.specs.Str.Parse.{digits_value}
use Rattle.std.specs.Fmt.{signed_decimal}
use Rattle.std.specs.Str.{bytes_eq}
use Rattle.std.proofs.lemmas.Slice.Eq.{bytes_eq-Decides}
use Rattle.std.proofs.lemmas.List.{append_assoc, append-nil}
use Rattle.std.proofs.lemmas.Bool.{and_parts}
use Rattle.batch.specs.declared.records.OrderLine.{OrderLine}
use Rattle.batch.specs.declared.records.OrderLine.TheVariants as line
use Rattle.batch.specs.declared.items.Kind.{Kind}
use Rattle.batch.specs.declared.items.Kind.TheVariants.{Take, Join, Set, Raise, Need, Write}
use Rattle.batch.specs.declared.items.Mark.{Mark}
use Rattle.batch.specs.declared.items.Mark.TheVariants.{Begin, Opening, House, Posting, Order, Run}
use Rattle.batch.specs.declared.items.Item.{Item}
use Rattle.batch.specs.declared.items.Item.TheVariants.{Begins, Opened, Kept, Posts, Orders, Runs}
use Rattle.batch.specs.declared.items.Fault.{Fault}
use Rattle.batch.specs.declared.items.BatchRefusal.{BatchRefusal}
use Rattle.batch.specs.declared.items.BatchRefusal.TheVariants.{Size, End}
use Rattle.batch.specs.declared.progress.Progress.{Progress}
use Rattle.batch.specs.declared.progress.Sizes.{Sizes}
use Rattle.batch.specs.Fields.{natural, cents, nonzero}
use Rattle.batch.specs.Marks.{code, letter_mark, mark_in, field_count}
use Rattle.batch.specs.Parts.{onto, fields, lines}
use Rattle.batch.specs.Progress.{sofar}
use Rattle.batch.specs.Reading.{said, closes, ended, batch_of_any_length, batch, Lawful}
use Rattle.batch.specs.Refusals.{refusal_at}
use Rattle.batch.specs.Rules.{order_in, said_by, judged}
use Rattle.batch.specs.Tables.{seen_in}
use Rattle.batch.specs.Texts.{commas, head_line, opening_line, house_line, posting_line, order_text, run_line}
use Rattle.batch.proofs.Said.{batch_is}
use Rattle.batch.proofs.Accepted.{natural_bounds, mapped_some, nonzero_some, ask_ok, same_ok, tested_ok, judged_allowed}

-- the fields after the mark in the line of an order
abbrev pub order_fields : OrderLine → List (List ℕ)
order_fields (line.Take a) = (84 ∷ []) ∷ decimal a ∷ []
order_fields (line.Join a) = (85 ∷ []) ∷ decimal a ∷ []
order_fields (line.Set v) = (83 ∷ []) ∷ signed_decimal v ∷ []
order_fields (line.Raise v) = (65 ∷ []) ∷ signed_decimal v ∷ []
order_fields (line.Need v) = (78 ∷ []) ∷ signed_decimal v ∷ []
order_fields (line.Write a) = (87 ∷ []) ∷ decimal a ∷ []

-- the fields of an accepted line
abbrev pub item_fields : ℕ → Item → List (List ℕ)
item_fields seen (Begins h) = (66 ∷ []) ∷ decimal h.houses ∷ decimal h.workers ∷ decimal h.patience ∷ []
item_fields seen (Opened o) = (79 ∷ []) ∷ decimal o.account ∷ signed_decimal o.cents ∷ []
item_fields seen (Kept k) = (72 ∷ []) ∷ decimal seen ∷ decimal k ∷ []
item_fields seen Posts = (80 ∷ []) ∷ []
item_fields seen (Orders o) = order_fields o
item_fields seen (Runs r) = (71 ∷ []) ∷ decimal r.worker ∷ decimal r.count ∷ []

-- the line of an accepted line
abbrev pub item_line : ℕ → Item → List ℕ
item_line seen (Begins h) = head_line h.houses h.workers h.patience
item_line seen (Opened o) = opening_line o.account o.cents
item_line seen (Kept k) = house_line seen k
item_line seen Posts = posting_line
item_line seen (Orders o) = order_text o
item_line seen (Runs r) = run_line r

-- the lines as they came
unfoldable pub written : List Item → List ℕ
written [] = []
written (i ∷ past) = written past ++ item_line (seen_in past) i

pub same_line : (seen : ℕ) (i : Item) → commas (item_fields seen i) ++ (10 ∷ []) ≡ item_line seen i
same_line seen (Begins h) = refl
same_line seen (Opened o) = refl
same_line seen (Kept k) = refl
same_line seen Posts = refl
same_line seen (Orders (line.Take a)) = refl
same_line seen (Orders (line.Join a)) = refl
same_line seen (Orders (line.Set v)) = refl
same_line seen (Orders (line.Raise v)) = refl
same_line seen (Orders (line.Need v)) = refl
same_line seen (Orders (line.Write a)) = refl
same_line seen (Runs r) = refl

-- a number's field is its text

natural_back : (low high : ℕ) (f : List ℕ) (n : ℕ) → natural low high f ≡ Some n → f ≡ decimal n
unfolding natural
natural_back low high f n e =
    let t = bytes_eq f (decimal (digits_value 10 f)) && (leb low (digits_value 10 f) && leb (digits_value 10 f) high) in
    let P : Bool → Type 0 = λ b. t ≡ b → ◌≡◌ {A = Option ℕ} (cond b (Some (digits_value 10 f)) None) (Some n) → f ≡ decimal n in
    (elim t as P [
      | true ↦ λ h k. (let same : digits_value 10 f ≡ n = cc in (bytes_eq-Decides f (decimal (digits_value 10 f))).0 (and_parts (bytes_eq f (decimal (digits_value 10 f))) _ h).0 ∙ ap decimal same)
      | false ↦ λ h k. absurd (let z : ◌≡◌ {A = ℕ} 0 1 = cc in omega arith)
    ]) refl e

minus_text : (n : ℕ) → 1 ≤ n → 45 ∷ decimal n ≡ signed_decimal (neg_ℤ (pos n))
minus_text zero h = absurd (omega arith)
minus_text (suc n) h = refl

cents_back : (f : List ℕ) (v : ℤ) → cents f ≡ Some v → f ≡ signed_decimal v
unfolding cents
cents_back [] v e = absurd (let z : ◌≡◌ {A = ℕ} 0 1 = cc in omega arith)
cents_back (c ∷ cs) v e =
    let P : Bool → Type 0 = λ b. eqb c 45 ≡ b → cond b (option_map (λ n. neg_ℤ (pos n)) (natural 1 1000000000000000 cs)) (option_map pos (natural 0 1000000000000000 (c ∷ cs))) ≡ Some v → c ∷ cs ≡ signed_decimal v in
    (elim (eqb c 45) as P [
      | true ↦ λ q h. (let m = mapped_some (λ n. neg_ℤ (pos n)) (natural 1 1000000000000000 cs) v h in
          ap (λ x. x ∷ cs) (eqb-true c 45 q) ∙ ap (λ x. 45 ∷ x) (natural_back 1 1000000000000000 cs m.0 m.1)
          ∙ minus_text m.0 (natural_bounds 1 1000000000000000 cs m.0 m.1).0 ∙ ap signed_decimal m.2)
      | false ↦ λ q h. (let m = mapped_some pos (natural 0 1000000000000000 (c ∷ cs)) v h in natural_back 0 1000000000000000 (c ∷ cs) m.0 m.1 ∙ ap signed_decimal m.2)
    ]) refl e

-- a mark's field is its letter

pick : (c k : ℕ) (m n : Mark) (other : Option Mark) → cond (eqb c k) (Some n) other ≡ Some m → code n ≡ k → (other ≡ Some m → c ≡ code m) → c ≡ code m
pick c k m n other e same next =
    let P : Bool → Type 0 = λ b. eqb c k ≡ b → ◌≡◌ {A = Option Mark} (cond b (Some n) other) (Some m) → c ≡ code m in
    (elim (eqb c k) as P [
      | true ↦ λ q h. (let z : n ≡ m = cc in eqb-true c k q ∙ sym same ∙ ap code z)
      | false ↦ λ q h. next h
    ]) refl e

pub letter_back : (c : ℕ) (m : Mark) → letter_mark c ≡ Some m → c ≡ code m
letter_back c m e =
    pick c 66 m Begin _ e refl (λ e. pick c 79 m Opening _ e refl (λ e. pick c 72 m House _ e refl (λ e. pick c 80 m Posting _ e refl (λ e. pick c 71 m Run _ e refl
    (λ e. pick c 84 m (Order Take) _ e refl (λ e. pick c 85 m (Order Join) _ e refl (λ e. pick c 83 m (Order Set) _ e refl (λ e. pick c 65 m (Order Raise) _ e refl
    (λ e. pick c 78 m (Order Need) _ e refl (λ e. pick c 87 m (Order Write) None e refl (λ e. absurd (let z : ◌≡◌ {A = ℕ} 0 1 = cc in omega arith))))))))))))

mark_back : (f : List ℕ) (m : Mark) → mark_in f ≡ Some m → f ≡ code m ∷ []
mark_back [] m e = absurd (let z : ◌≡◌ {A = ℕ} 0 1 = cc in omega arith)
mark_back (c ∷ []) m e = ap (λ x. x ∷ []) (letter_back c m e)
mark_back (c ∷ d ∷ cs) m e = absurd (let z : ◌≡◌ {A = ℕ} 0 1 = cc in omega arith)

-- a list of this length, written out

one : (fs : List (List ℕ)) → length fs ≡ 1 → fs ≡ get_or fs 0 [] ∷ []
one [] e = absurd (omega arith)
one (a ∷ []) e = refl
one (a ∷ b ∷ fs) e = absurd (omega arith)

two : (fs : List (List ℕ)) → length fs ≡ 2 → fs ≡ get_or fs 0 [] ∷ get_or fs 1 [] ∷ []
two [] e = absurd (omega arith)
two (a ∷ fs) e = ap (λ l. a ∷ l) (one fs (omega arith))

three : (fs : List (List ℕ)) → length fs ≡ 3 → fs ≡ get_or fs 0 [] ∷ get_or fs 1 [] ∷ get_or fs 2 [] ∷ []
three [] e = absurd (omega arith)
three (a ∷ fs) e = ap (λ l. a ∷ l) (two fs (omega arith))

four : (fs : List (List ℕ)) → length fs ≡ 4 → fs ≡ get_or fs 0 [] ∷ get_or fs 1 [] ∷ get_or fs 2 [] ∷ get_or fs 3 [] ∷ []
four [] e = absurd (omega arith)
four (a ∷ fs) e = ap (λ l. a ∷ l) (three fs (omega arith))

-- the fields of an accepted line are those that it writes

order_back : (k : Kind) (a : List ℕ) (o : OrderLine) → order_in k a ≡ Some o → (code (Order k) ∷ []) ∷ a ∷ [] ≡ order_fields o
order_back Take a o e =
    let m = mapped_some line.Take (natural 0 63 a) o e in
    ap (λ x. (84 ∷ []) ∷ x ∷ []) (natural_back 0 63 a m.0 m.1) ∙ ap order_fields m.2
order_back Join a o e =
    let m = mapped_some line.Join (natural 0 63 a) o e in
    ap (λ x. (85 ∷ []) ∷ x ∷ []) (natural_back 0 63 a m.0 m.1) ∙ ap order_fields m.2
order_back Set a o e =
    let m = mapped_some line.Set (cents a) o e in
    ap (λ x. (83 ∷ []) ∷ x ∷ []) (cents_back a m.0 m.1) ∙ ap order_fields m.2
order_back Raise a o e =
    let m = mapped_some line.Raise (cents a) o e in
    ap (λ x. (65 ∷ []) ∷ x ∷ []) (cents_back a m.0 m.1) ∙ ap order_fields m.2
order_back Need a o e =
    let m = mapped_some line.Need (cents a) o e in
    ap (λ x. (78 ∷ []) ∷ x ∷ []) (cents_back a m.0 m.1) ∙ ap order_fields m.2
order_back Write a o e =
    let m = mapped_some line.Write (natural 0 63 a) o e in
    ap (λ x. (87 ∷ []) ∷ x ∷ []) (natural_back 0 63 a m.0 m.1) ∙ ap order_fields m.2

said_back : (s : Progress) (m : Mark) (fs : List (List ℕ)) (i : Item) → length fs ≡ field_count m → get_or fs 0 [] ≡ code m ∷ []
    → said_by s m (get_or fs 1 []) (get_or fs 2 []) (get_or fs 3 []) ≡ Ok i → fs ≡ item_fields s.seen i
said_back s Begin fs i l f e =
    let a = ask_ok 2 (natural 1 16 (get_or fs 1 [])) _ i e in
    let b = ask_ok 3 (natural 1 8 (get_or fs 2 [])) _ i a.2 in
    let c = ask_ok 4 (natural 1 1000 (get_or fs 3 [])) _ i b.2 in
    let x = natural_back 1 16 _ _ a.1 in let y = natural_back 1 8 _ _ b.1 in let z = natural_back 1 1000 _ _ c.1 in
    let w = four fs l in
    let k : fs ≡ item_fields s.seen (Begins record { houses = a.0; workers = b.0; patience = c.0 }) = cc in
    k ∙ ap (item_fields s.seen) (same_ok _ i c.2)
said_back s Opening fs i l f e =
    let a = ask_ok 2 (natural s.account 63 (get_or fs 1 [])) _ i e in
    let b = ask_ok 3 (nonzero (cents (get_or fs 2 []))) _ i a.2 in
    let x = natural_back s.account 63 _ _ a.1 in let y = cents_back _ _ (nonzero_some _ _ b.1).0 in
    let w = three fs l in
    let k : fs ≡ item_fields s.seen (Opened record { account = a.0; cents = b.0 }) = cc in
    k ∙ ap (item_fields s.seen) (same_ok _ i b.2)
said_back s House fs i l f e =
    let a = ask_ok 2 (natural s.seen (min s.seen (s.houses - 1)) (get_or fs 1 [])) _ i e in
    let b = ask_ok 3 (natural 0 (s.workers - 1) (get_or fs 2 [])) _ i a.2 in
    let h = natural_bounds s.seen (min s.seen (s.houses - 1)) _ _ a.1 in
    let n : a.0 ≡ s.seen = omega arith in
    let x = natural_back s.seen (min s.seen (s.houses - 1)) _ _ a.1 in let y = natural_back 0 (s.workers - 1) _ _ b.1 in
    let w = three fs l in
    let k : fs ≡ item_fields s.seen (Kept b.0) = cc in
    k ∙ ap (item_fields s.seen) (same_ok _ i b.2)
said_back s Posting fs i l f e =
    let w = one fs l in
    let k : fs ≡ item_fields s.seen Posts = cc in
    k ∙ ap (item_fields s.seen) (same_ok _ i e)
said_back s (Order o) fs i l f e =
    let w = two fs l in
    let a = ask_ok 2 (order_in o (get_or fs 1 [])) _ i e in
    let x = order_back o (get_or fs 1 []) a.0 a.1 in
    let k : fs ≡ item_fields s.seen (Orders a.0) = w ∙ ap (λ y. y ∷ get_or fs 1 [] ∷ []) f ∙ x in
    k ∙ ap (item_fields s.seen) (same_ok _ i a.2)
said_back s Run fs i l f e =
    let a = ask_ok 2 (natural 0 (s.workers - 1) (get_or fs 1 [])) _ i e in
    let b = ask_ok 3 (natural 1 10000 (get_or fs 2 [])) _ i a.2 in
    let x = natural_back 0 (s.workers - 1) _ _ a.1 in let y = natural_back 1 10000 _ _ b.1 in
    let w = three fs l in
    let k : fs ≡ item_fields s.seen (Runs record { worker = a.0; count = b.0 }) = cc in
    k ∙ ap (item_fields s.seen) (same_ok _ i b.2)

judged_back : (t : Sizes) (s : Progress) (fs : List (List ℕ)) (i : Item) → judged t s fs ≡ Ok i → fs ≡ item_fields s.seen i
judged_back t s fs i e =
    let q = tested_ok t s (length fs) (mark_in (get_or fs 0 [])) (get_or fs 1 []) (get_or fs 2 []) (get_or fs 3 []) i e in
    said_back s q.0 fs i q.2.form (mark_back (get_or fs 0 []) q.0 q.1) q.2.says

-- the fields, joined again, are the line

onto_some : (c : ℕ) (ps : List (List ℕ)) → 0 < length (onto c ps)
onto_some c [] = omega arith
onto_some c (p ∷ ps) = omega arith

some_fields : (s : List ℕ) → 0 < length (fields s)
some_fields [] = omega arith
some_fields (c ∷ cs) = go (eqb c 44)
  where
    go : (b : Bool) → 0 < length (cond b ([] ∷ fields cs) (onto c (fields cs)))
    go true = omega arith
    go false = onto_some c (fields cs)

parted_onto : (c : ℕ) (ps : List (List ℕ)) → 0 < length ps → commas (onto c ps) ≡ c ∷ commas ps
parted_onto c [] h = absurd (omega arith)
parted_onto c (p ∷ []) h = refl
parted_onto c (p ∷ q ∷ ps) h = refl

parted_more : (ps : List (List ℕ)) → 0 < length ps → commas ([] ∷ ps) ≡ 44 ∷ commas ps
parted_more [] h = absurd (omega arith)
parted_more (p ∷ ps) h = refl

parted_fields : (s : List ℕ) → commas (fields s) ≡ s
parted_fields [] = refl
parted_fields (c ∷ cs) =
    let P : Bool → Type 0 = λ b. eqb c 44 ≡ b → commas (cond b ([] ∷ fields cs) (onto c (fields cs))) ≡ c ∷ cs in
    (elim (eqb c 44) as P [
      | true ↦ λ q. parted_more (fields cs) (some_fields cs) ∙ ap (λ l. 44 ∷ l) (parted_fields cs) ∙ ap (λ x. x ∷ cs) (sym (eqb-true c 44 q))
      | false ↦ λ q. parted_onto c (fields cs) (some_fields cs) ∙ ap (λ l. c ∷ l) (parted_fields cs)
    ]) refl

line_back : (t : Sizes) (s : Progress) (l : List ℕ) (i : Item) → judged t s (fields l) ≡ Ok i → l ++ (10 ∷ []) ≡ item_line s.seen i
line_back t s l i e = ap (λ x. x ++ (10 ∷ [])) (sym (parted_fields l) ∙ ap commas (judged_back t s (fields l) i e)) ∙ same_line s.seen i

-- the lines, each ended by a line feed

unfoldable ends : List (List ℕ) → List ℕ
ends [] = []
ends (l ∷ ls) = l ++ (10 ∷ ends ls)

ends_some : (c : ℕ) (ps : List (List ℕ)) → 0 < length ps → ends (onto c ps) ≡ c ∷ ends ps
unfolding ends
ends_some c [] h = absurd (omega arith)
ends_some c (p ∷ ps) h = refl

some_line : (c : ℕ) (cs : List ℕ) → 0 < length (lines (c ∷ cs))
some_line c cs = go (eqb c 10)
  where
    go : (b : Bool) → 0 < length (cond b ([] ∷ lines cs) (onto c (lines cs)))
    go true = omega arith
    go false = onto_some c (lines cs)

last_more : (c d : ℕ) (cs : List ℕ) → get_or (c ∷ d ∷ cs) (length (c ∷ d ∷ cs) - 1) 0 ≡ get_or (d ∷ cs) (length (d ∷ cs) - 1) 0
last_more c d cs = simp unary_clauses refl

ends_lines : (s : List ℕ) → get_or s (length s - 1) 0 ≡ 10 → ends (lines s) ≡ s
unfolding ends
ends_lines [] e = refl
ends_lines (c ∷ []) e =
    let ten : c ≡ 10 = e in
    ap (λ b. ends (cond b ([] ∷ []) (onto c []))) (eq-eqb c 10 ten) ∙ ap (λ x. x ∷ []) (sym ten)
ends_lines (c ∷ d ∷ cs) e =
    let k = ends_lines (d ∷ cs) (sym (last_more c d cs) ∙ e) in
    let P : Bool → Type 0 = λ b. eqb c 10 ≡ b → ends (cond b ([] ∷ lines (d ∷ cs)) (onto c (lines (d ∷ cs)))) ≡ c ∷ d ∷ cs in
    (elim (eqb c 10) as P [
      | true ↦ λ q. ap (λ l. 10 ∷ l) k ∙ ap (λ x. x ∷ d ∷ cs) (sym (eqb-true c 10 q))
      | false ↦ λ q. ends_some c (lines (d ∷ cs)) (some_line d cs) ∙ ap (λ l. c ∷ l) k
    ]) refl

pub record Read (t : Sizes) (past : List Item) (bytes : List ℕ) (end : List Item) : Type 0 where
  pub text : written end ≡ written past ++ bytes
  pub lawful : Lawful t end

pub same_past : (p q : List Item) → ◌≡◌ {A = Result (List Item) BatchRefusal} (Ok p) (Ok q) → p ≡ q
same_past p q e = cc

read_lines : (t : Sizes) (past : List Item) (ls : List (List ℕ)) (end : List Item) → Lawful t past → said t past ls ≡ Ok end → Read t past (ends ls) end
unfolding ends written
read_lines t past [] end w e =
    let same = same_past past end e in
    record { text = ap written (sym same) ∙ sym (append-nil (written past)); lawful = subst (Lawful t) same w }
read_lines t past (l ∷ ls) end w e =
    let P : Result Item Fault → Type 0 = λ v. judged t (sofar past) (fields l) ≡ v
    → ◌≡◌ {A = Result (List Item) BatchRefusal} (elim v [ Ok i ↦ said t (i ∷ past) ls | Err f ↦ Err (refusal_at (length past + 1) f) ]) (Ok end) → Read t past (ends (l ∷ ls)) end in
    (elim (judged t (sofar past) (fields l)) as P [
      | Ok i ↦ λ j h.
          (let r = read_lines t (i ∷ past) ls end (judged_allowed t (sofar past) (fields l) i j, w) h in
          record {
            text = r.text ∙ append_assoc (written past) (item_line (seen_in past) i) (ends ls)
                ∙ ap (λ x. written past ++ (x ++ ends ls)) (sym (line_back t (sofar past) l i j)) ∙ ap (λ x. written past ++ x) (append_assoc l (10 ∷ []) (ends ls));
            lawful = r.lawful;
          })
      | Err f ↦ λ j h. absurd (let z : ◌≡◌ {A = ℕ} 0 1 = cc in omega arith)
    ]) refl e

-- an accepted text

ended_back : (text : List ℕ) (r : Result (List Item) BatchRefusal) (past : List Item) → ended text r ≡ Ok past → (r ≡ Ok past) × (closes text past ≡ true)
ended_back text (Err e) past h = absurd (let z : ◌≡◌ {A = ℕ} 0 1 = cc in omega arith)
ended_back text (Ok p) past h = go (closes text p) refl h
  where
    go : (b : Bool) → closes text p ≡ b → ◌≡◌ {A = Result (List Item) BatchRefusal} (cond b (Ok p) (Err (End (length p)))) (Ok past) → (◌≡◌ {A = Result (List Item) BatchRefusal} (Ok p) (Ok past)) × (closes text past ≡ true)
    go true c k = (k, ap (closes text) (sym (same_past p past k)) ∙ c)
    go false c k = absurd (let z : ◌≡◌ {A = ℕ} 0 1 = cc in omega arith)

pub accepted : (t : Sizes) (text : List ℕ) (past : List Item) → batch_of_any_length t text ≡ Ok past → (said t [] (lines text) ≡ Ok past) × (closes text past ≡ true)
accepted t text past e = go (eqb (length text) 0) e
  where
    go : (b : Bool) → cond b (Err Size) (ended text (said t [] (lines text))) ≡ Ok past → (said t [] (lines text) ≡ Ok past) × (closes text past ≡ true)
    go true k = absurd (let z : ◌≡◌ {A = ℕ} 0 1 = cc in omega arith)
    go false k = ended_back text (said t [] (lines text)) past k

pub any_length : (t : Sizes) (text : List ℕ) (past : List Item) → batch t text ≡ Ok past → batch_of_any_length t text ≡ Ok past
any_length t text past e = go (ltb 32768 (length text)) (sym (batch_is t text) ∙ e)
  where
    go : (b : Bool) → cond b (Err Size) (batch_of_any_length t text) ≡ Ok past → batch_of_any_length t text ≡ Ok past
    go true k = absurd (let z : ◌≡◌ {A = ℕ} 0 1 = cc in omega arith)
    go false k = k

pub text_written : (t : Sizes) (text : List ℕ) (past : List Item) → batch_of_any_length t text ≡ Ok past → (text ≡ written past) × Lawful t past
unfolding written
text_written t text past e =
    let a = accepted t text past e in
    let r = read_lines t [] (lines text) past tt a.0 in
    let feed = eqb-true (get_or text (length text - 1) 0) 10 (and_parts (eqb (get_or text (length text - 1) 0) 10) _ a.1).0 in
    (sym (r.text ∙ ends_lines text feed), r.lawful)
