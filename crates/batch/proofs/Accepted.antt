-- An accepted line keeps its limits.
use Rattle.std.proofs.Common.{◌≡◌, ℕ, zero, suc, ◌+◌, ◌-◌, ◌<◌, ◌≤◌, min, drop, Bool, true, false, cond, ◌&&◌, eqb, leb, List, [], ◌∷◌, length, get_or, ℤ, pos, negsuc, neg_ℤ, nat_abs, Some, None, Ok, Err, decimal, Option, Result, sym, refl, ap, ◌∙◌, subst, arith, ltb-true, ne_eqb, eqb-true, leb-true}
use Rattle.std.specs.Option.{option_map}
use Rattle.std.specs.Str.Parse.{digits_value}
use Rattle.std.specs.Str.{bytes_eq}
use Rattle.std.proofs.lemmas.Bool.{and_parts, eqb-false}
use Rattle.journal.specs.Entries.{InRange}
use Rattle.batch.specs.declared.records.OrderLine.{OrderLine}
use Rattle.batch.specs.declared.records.OrderLine.TheVariants as line
use Rattle.batch.specs.declared.items.Kind.{Kind}
use Rattle.batch.specs.declared.items.Kind.TheVariants.{Take, Join, Set, Raise, Need, Write}
use Rattle.batch.specs.declared.items.Mark.{Mark}
use Rattle.batch.specs.declared.items.Mark.TheVariants.{Begin, Opening, House, Posting, Order, Run}
use Rattle.batch.specs.declared.items.Item.{Item}
use Rattle.batch.specs.declared.items.Fault.{Fault}
use Rattle.batch.specs.declared.items.Fault.TheVariants.{Form, Place, Room}
use Rattle.batch.specs.declared.progress.Progress.{Progress}
use Rattle.batch.specs.declared.progress.Sizes.{Sizes}
use Rattle.batch.specs.Fields.{natural, cents, nonzero}
use Rattle.batch.specs.Limits.{Within, Allowed, Ordered, mark_of, kind_of}
use Rattle.batch.specs.Marks.{letter_mark, mark_in, field_count, stands, follows, counts}
use Rattle.batch.specs.declared.cutting.Fields.{Fields}
use Rattle.batch.specs.declared.cutting.Fields.TheVariants.{Zero, One, Two, Three, More}
use Rattle.batch.specs.declared.cutting.Next.{Next}
use Rattle.batch.specs.declared.judging.Judged.{Judged}
use Rattle.batch.specs.Judging.{Judges, JudgesLine}
use Rattle.batch.specs.Cuts.{fields_in, after_in, field_total, first_in, second_in, third_in, Lists}
use Rattle.batch.specs.Parts.{onto, fields, first_line, after_line}
use Rattle.batch.specs.Rules.{ask, order_in, said_by, room_for, seated, tested, judged}

pub natural_bounds : (low high : ℕ) (f : List ℕ) (n : ℕ) → natural low high f ≡ Some n → (low ≤ n) × (n ≤ high)
unfolding natural
natural_bounds low high f n e =
    let t = bytes_eq f (decimal (digits_value 10 f)) && (leb low (digits_value 10 f) && leb (digits_value 10 f) high) in
    let P : Bool → Type 0 = λ b. t ≡ b → ◌≡◌ {A = Option ℕ} (cond b (Some (digits_value 10 f)) None) (Some n) → (low ≤ n) × (n ≤ high) in
    (elim t as P [
      | true ↦ λ h k. (let same : digits_value 10 f ≡ n = cc in let q = and_parts (leb low (digits_value 10 f)) (leb (digits_value 10 f) high) (and_parts (bytes_eq f (decimal (digits_value 10 f))) _ h).1 in
          (omega (arith, leb-true low (digits_value 10 f) q.0), omega (arith, leb-true (digits_value 10 f) high q.1)))
      | false ↦ λ h k. absurd (let z : ◌≡◌ {A = ℕ} 0 1 = cc in omega arith)
    ]) refl e

pub mapped_some : {X Y : Type 0} (f : X → Y) (o : Option X) (y : Y) → option_map f o ≡ Some y → (x : X) × (o ≡ Some x) × (f x ≡ y)
mapped_some f None y e = absurd (let z : ◌≡◌ {A = ℕ} 0 1 = cc in omega arith)
mapped_some f (Some x) y e = (x, refl, (cc))

abs_neg : (n : ℕ) → nat_abs (neg_ℤ (pos n)) ≡ n
abs_neg zero = refl
abs_neg (suc n) = refl

pub cents_bounds : (f : List ℕ) (v : ℤ) → cents f ≡ Some v → InRange v
unfolding cents
cents_bounds [] v e = absurd (let z : ◌≡◌ {A = ℕ} 0 1 = cc in omega arith)
cents_bounds (c ∷ cs) v e =
    let P : Bool → Type 0 = λ b. cond b (option_map (λ n. neg_ℤ (pos n)) (natural 1 1000000000000000 cs)) (option_map pos (natural 0 1000000000000000 (c ∷ cs))) ≡ Some v → InRange v in
    (elim (eqb c 45) as P [
      | true ↦ λ h. (let m = mapped_some (λ n. neg_ℤ (pos n)) (natural 1 1000000000000000 cs) v h in omega (arith, (natural_bounds 1 1000000000000000 cs m.0 m.1).1, ap nat_abs m.2, abs_neg m.0))
      | false ↦ λ h. (let m = mapped_some pos (natural 0 1000000000000000 (c ∷ cs)) v h in omega (arith, (natural_bounds 0 1000000000000000 (c ∷ cs) m.0 m.1).1, ap nat_abs m.2))
    ]) e

pub nonzero_some : (o : Option ℤ) (v : ℤ) → nonzero o ≡ Some v → (o ≡ Some v) × (v ≡ pos 0 → ⊥)
nonzero_some None v e = absurd (let z : ◌≡◌ {A = ℕ} 0 1 = cc in omega arith)
nonzero_some (Some (pos zero)) v e = absurd (let z : ◌≡◌ {A = ℕ} 0 1 = cc in omega arith)
nonzero_some (Some (pos (suc n))) v e = (e, λ k. (let z : ◌≡◌ {A = ℕ} 0 (suc n) = cc in omega arith))
nonzero_some (Some (negsuc n)) v e = (e, λ k. (let z : ◌≡◌ {A = ℕ} 0 1 = cc in omega arith))

pub ask_ok : {X : Type 0} (k : ℕ) (o : Option X) (next : X → Result Item Fault) (i : Item) → ask k o next ≡ Ok i → (x : X) × (o ≡ Some x) × (next x ≡ Ok i)
ask_ok k None next i e = absurd (let z : ◌≡◌ {A = ℕ} 0 1 = cc in omega arith)
ask_ok k (Some x) next i e = (x, refl, e)

pub same_ok : (i j : Item) → ◌≡◌ {A = Result Item Fault} (Ok i) (Ok j) → i ≡ j
same_ok i j e = cc

-- an order line is of its mark's kind
pub ordered : (k : Kind) (a : List ℕ) (o : OrderLine) → order_in k a ≡ Some o → (kind_of o ≡ k) × Ordered o
ordered Take a o e =
    let m = mapped_some line.Take (natural 0 63 a) o e in
    subst (λ x. (kind_of x ≡ Take) × Ordered x) m.2 (refl, (natural_bounds 0 63 a m.0 m.1).1)
ordered Join a o e =
    let m = mapped_some line.Join (natural 0 63 a) o e in
    subst (λ x. (kind_of x ≡ Join) × Ordered x) m.2 (refl, (natural_bounds 0 63 a m.0 m.1).1)
ordered Set a o e =
    let m = mapped_some line.Set (cents a) o e in
    subst (λ x. (kind_of x ≡ Set) × Ordered x) m.2 (refl, cents_bounds a m.0 m.1)
ordered Raise a o e =
    let m = mapped_some line.Raise (cents a) o e in
    subst (λ x. (kind_of x ≡ Raise) × Ordered x) m.2 (refl, cents_bounds a m.0 m.1)
ordered Need a o e =
    let m = mapped_some line.Need (cents a) o e in
    subst (λ x. (kind_of x ≡ Need) × Ordered x) m.2 (refl, cents_bounds a m.0 m.1)
ordered Write a o e =
    let m = mapped_some line.Write (natural 0 63 a) o e in
    subst (λ x. (kind_of x ≡ Write) × Ordered x) m.2 (refl, (natural_bounds 0 63 a m.0 m.1).1)

-- what a line says keeps its limits

abbrev Sound : Progress → Mark → Item → Type 0
Sound s m i = (mark_of i ≡ m) × Within s i

said_sound : (s : Progress) (m : Mark) (a b c : List ℕ) (i : Item) → counts s m ≡ true → said_by s m a b c ≡ Ok i → Sound s m i
said_sound s Begin a b c i k e =
    let x = ask_ok 2 (natural 1 16 a) _ i e in
    let y = ask_ok 3 (natural 1 8 b) _ i x.2 in
    let z = ask_ok 4 (natural 1 1000 c) _ i y.2 in
    subst (Sound s Begin) (same_ok _ i z.2) (refl, (natural_bounds 1 16 a x.0 x.1, natural_bounds 1 8 b y.0 y.1, natural_bounds 1 1000 c z.0 z.1))
said_sound s Opening a b c i k e =
    let x = ask_ok 2 (natural s.account 63 a) _ i e in
    let y = ask_ok 3 (nonzero (cents b)) _ i x.2 in
    let n = natural_bounds s.account 63 a x.0 x.1 in
    let v = nonzero_some (cents b) y.0 y.1 in
    subst (Sound s Opening) (same_ok _ i y.2) (refl, (n.0, n.1, cents_bounds b y.0 v.0, v.1))
said_sound s House a b c i k e =
    let x = ask_ok 2 (natural s.seen (min s.seen (s.houses - 1)) a) _ i e in
    let y = ask_ok 3 (natural 0 (s.workers - 1) b) _ i x.2 in
    let n = natural_bounds s.seen (min s.seen (s.houses - 1)) a x.0 x.1 in
    subst (Sound s House) (same_ok _ i y.2) (refl, (omega arith, (natural_bounds 0 (s.workers - 1) b y.0 y.1).1))
said_sound s Posting a b c i k e = subst (Sound s Posting) (same_ok _ i e) (refl, ltb-true s.here 4096 k)
said_sound s (Order o) a b c i k e =
    let x = ask_ok 2 (order_in o a) _ i e in
    let r = ordered o a x.0 x.1 in
    subst (Sound s (Order o)) (same_ok _ i x.2) (ap Order r.0, (ltb-true s.lines 16 k, r.1))
said_sound s Run a b c i k e =
    let x = ask_ok 2 (natural 0 (s.workers - 1) a) _ i e in
    let y = ask_ok 3 (natural 1 10000 b) _ i x.2 in
    let n = natural_bounds 1 10000 b y.0 y.1 in
    subst (Sound s Run) (same_ok _ i y.2) (refl, ((natural_bounds 0 (s.workers - 1) a x.0 x.1).1, n.0, n.1))

-- what the tests tell

seated_ok : (t : Sizes) (s : Progress) (r : Result Item Fault) (i : Item) → seated t s r ≡ Ok i → (r ≡ Ok i) × (room_for t s i ≡ true)
seated_ok t s (Err f) i e = absurd (let z : ◌≡◌ {A = ℕ} 0 1 = cc in omega arith)
seated_ok t s (Ok j) i e =
    let P : Bool → Type 0 = λ b. room_for t s j ≡ b → ◌≡◌ {A = Result Item Fault} (cond b (Ok j) (Err Room)) (Ok i) → (◌≡◌ {A = Result Item Fault} (Ok j) (Ok i)) × (room_for t s i ≡ true) in
    (elim (room_for t s j) as P [
      | true ↦ λ h k. (let same : j ≡ i = cc in (k, ap (room_for t s) (sym same) ∙ h))
      | false ↦ λ h k. absurd (let z : ◌≡◌ {A = ℕ} 0 1 = cc in omega arith)
    ]) refl e

passed : (b : Bool) (r : Result Item Fault) (f : Fault) (i : Item) → cond b r (Err f) ≡ Ok i → (b ≡ true) × (r ≡ Ok i)
passed true r f i e = (refl, e)
passed false r f i e = absurd (let z : ◌≡◌ {A = ℕ} 0 1 = cc in omega arith)

pub record Passed (t : Sizes) (s : Progress) (n : ℕ) (m : Mark) (a b c : List ℕ) (i : Item) : Type 0 where
  pub form : n ≡ field_count m
  pub stood : stands s m ≡ true
  pub says : said_by s m a b c ≡ Ok i
  pub room : room_for t s i ≡ true

pub tested_ok : (t : Sizes) (s : Progress) (n : ℕ) (o : Option Mark) (a b c : List ℕ) (i : Item) → tested t s n o a b c ≡ Ok i → (m : Mark) × (o ≡ Some m) × Passed t s n m a b c i
tested_ok t s n None a b c i e = absurd (let z : ◌≡◌ {A = ℕ} 0 1 = cc in omega arith)
tested_ok t s n (Some m) a b c i e =
    let x = passed (eqb n (field_count m)) _ Form i e in
    let y = passed (stands s m) _ Place i x.1 in
    let z = seated_ok t s (said_by s m a b c) i y.1 in
    (m, refl, record { form = eqb-true n (field_count m) x.0; stood = y.0; says = z.0; room = z.1 })

passed_allowed : (t : Sizes) (s : Progress) (n : ℕ) (m : Mark) (a b c : List ℕ) (i : Item) → Passed t s n m a b c i → Allowed t s i
passed_allowed t s n m a b c i p =
    let q = and_parts (follows m s.stage) (counts s m) p.stood in
    let r = said_sound s m a b c i q.1 p.says in
    record { place = ap (λ x. follows x s.stage) r.0 ∙ q.0; within = r.1; room = p.room }

few_fields : (m : Mark) → field_count m ≤ 4
few_fields Begin = omega arith
few_fields Opening = omega arith
few_fields House = omega arith
few_fields Posting = omega arith
few_fields (Order k) = omega arith
few_fields Run = omega arith

pub judged_allowed : (t : Sizes) (s : Progress) (fs : List (List ℕ)) (i : Item) → judged t s fs ≡ Ok i → Allowed t s i
judged_allowed t s fs i e =
    let q = tested_ok t s (length fs) (mark_in (get_or fs 0 [])) (get_or fs 1 []) (get_or fs 2 []) (get_or fs 3 []) i e in
    passed_allowed t s (length fs) q.0 (get_or fs 1 []) (get_or fs 2 []) (get_or fs 3 []) i q.2

pub judged_few : (t : Sizes) (s : Progress) (fs : List (List ℕ)) (i : Item) → judged t s fs ≡ Ok i → length fs ≤ 4
judged_few t s fs i e =
    let q = tested_ok t s (length fs) (mark_in (get_or fs 0 [])) (get_or fs 1 []) (get_or fs 2 []) (get_or fs 3 []) i e in
    omega (arith, q.2.form, few_fields q.0)

-- a line with more than three fields after its mark has the wrong count of them

many_form : (t : Sizes) (s : Progress) (n : ℕ) (o : Option Mark) (a b c : List ℕ) → 5 ≤ n → tested t s n o a b c ≡ Err Form
many_form t s n None a b c h = refl
many_form t s n (Some m) a b c h =
    let ne : n ≡ field_count m → ⊥ = λ e. omega (arith, few_fields m) in
    ap (λ (b' : Bool). cond b' (cond (stands s m) (seated t s (said_by s m a b c)) (Err Place)) (Err Form)) (ne_eqb n (field_count m) ne)

-- a line by its letter and its fields
pub listed_judged : (t : Sizes) (s : Progress) (letter : ℕ) (f : Fields) (fs : List (List ℕ)) → Lists f fs
    → tested t s (field_total f + 1) (letter_mark letter) (first_in f) (second_in f) (third_in f) ≡ judged t s ((letter ∷ []) ∷ fs)
listed_judged t s letter Zero fs h = ap (λ x. judged t s ((letter ∷ []) ∷ x)) (sym h)
listed_judged t s letter (One a) fs h = ap (λ x. judged t s ((letter ∷ []) ∷ x)) (sym h)
listed_judged t s letter (Two a b) fs h = ap (λ x. judged t s ((letter ∷ []) ∷ x)) (sym h)
listed_judged t s letter (Three a b c) fs h = ap (λ x. judged t s ((letter ∷ []) ∷ x)) (sym h)
listed_judged t s letter More fs h =
    many_form t s 5 (letter_mark letter) [] [] [] (omega arith) ∙ sym (many_form t s (length ((letter ∷ []) ∷ fs)) (letter_mark letter) (get_or fs 0 []) (get_or fs 1 []) (get_or fs 2 []) (omega arith))

-- the first line by its first two bytes

no_mark : (t : Sizes) (s : Progress) (fs : List (List ℕ)) → mark_in (get_or fs 0 []) ≡ None → judged t s fs ≡ Err Form
no_mark t s fs e = ap (λ o. tested t s (length fs) o (get_or fs 1 []) (get_or fs 2 []) (get_or fs 3 [])) e

-- of nothing no mark can come
pub empty_form : (t : Sizes) (s : Progress) (text : List ℕ) → length text ≡ 0 → judged t s (fields (first_line text)) ≡ Err Form
empty_form t s [] l = refl
empty_form t s (c ∷ cs) l = absurd (omega arith)

-- only a posting's mark is a line by itself
pub alone_form : (t : Sizes) (s : Progress) (letter : ℕ) → (letter_mark letter ≡ Some Posting → ⊥) → judged t s ((letter ∷ []) ∷ []) ≡ Err Form
alone_form t s letter n = go (letter_mark letter) n
  where
    go : (o : Option Mark) → (o ≡ Some Posting → ⊥) → tested t s 1 o [] [] [] ≡ Err Form
    go None h = refl
    go (Some Begin) h = refl
    go (Some Opening) h = refl
    go (Some House) h = refl
    go (Some Posting) h = absurd (h refl)
    go (Some (Order k)) h = refl
    go (Some Run) h = refl

-- nor is more than one letter a mark

long_mark : (t : Sizes) (s : Progress) (c d : ℕ) (ps : List (List ℕ)) → judged t s (onto c (onto d ps)) ≡ Err Form
long_mark t s c d [] = refl
long_mark t s c d (p ∷ ps) = refl

pub unmarked : (t : Sizes) (s : Progress) (text : List ℕ) → 1 < length text → (get_or text 1 0 ≡ 44 → ⊥) → (get_or text 1 0 ≡ 10 → ⊥) → judged t s (fields (first_line text)) ≡ Err Form
unmarked t s [] l n m = absurd (omega arith)
unmarked t s (c ∷ []) l n m = absurd (omega arith)
unmarked t s (c ∷ d ∷ cs) l n m =
    let line = first_line cs in
    subst (λ b. judged t s (fields (cond (eqb c 10) [] (c ∷ cond b [] (d ∷ line)))) ≡ Err Form) (sym (ne_eqb d 10 m))
    (elim (eqb c 10) as (λ b. judged t s (fields (cond b [] (c ∷ d ∷ line))) ≡ Err Form) [
      | true ↦ refl
      | false ↦ subst (λ b. judged t s (cond (eqb c 44) ([] ∷ cond b ([] ∷ fields line) (onto d (fields line))) (onto c (cond b ([] ∷ fields line) (onto d (fields line))))) ≡ Err Form) (sym (ne_eqb d 44 n))
          (elim (eqb c 44) as (λ b. judged t s (cond b ([] ∷ onto d (fields line)) (onto c (onto d (fields line)))) ≡ Err Form) [
            | true ↦ refl
            | false ↦ long_mark t s c d (fields line)
          ])
    ])

pub record Begun (t : Sizes) (s : Progress) (text : List ℕ) (letter : ℕ) (fs : List (List ℕ)) (after : List ℕ) : Type 0 where
  pub said : judged t s (fields (first_line text)) ≡ judged t s ((letter ∷ []) ∷ fs)
  pub rest : (i : Item) → judged t s (fields (first_line text)) ≡ Ok i → after_line text ≡ after

-- a comma or a line feed is no mark, so whatever is cut there is refused
begun_by : (t : Sizes) (s : Progress) (c : ℕ) (text : List ℕ) (fs : List (List ℕ)) (after : List ℕ)
    → fields (first_line text) ≡ cond (eqb c 10) ([] ∷ []) (cond (eqb c 44) ([] ∷ [] ∷ fs) ((c ∷ []) ∷ fs)) → (eqb c 10 ≡ false → after_line text ≡ after) → Begun t s text c fs after
begun_by t s c text fs after e g = go (eqb c 10) (eqb c 44) refl refl e
  where
    wrong : (l : List (List ℕ)) (n : ℕ) → c ≡ n → letter_mark n ≡ None → mark_in (get_or l 0 []) ≡ None → fields (first_line text) ≡ l → Begun t s text c fs after
    wrong l n k m z d =
        let refused : judged t s (fields (first_line text)) ≡ Err Form = ap (judged t s) d ∙ no_mark t s l z in
        record {
          said = refused ∙ sym (no_mark t s ((c ∷ []) ∷ fs) (ap letter_mark k ∙ m));
          rest = λ i j. absurd (let h : Ok i ≡ Err Form = sym j ∙ refused in let z : ◌≡◌ {A = ℕ} 0 1 = cc in omega arith);
        }

    go : (x y : Bool) → eqb c 10 ≡ x → eqb c 44 ≡ y → fields (first_line text) ≡ cond x ([] ∷ []) (cond y ([] ∷ [] ∷ fs) ((c ∷ []) ∷ fs)) → Begun t s text c fs after
    go true y h k d = wrong ([] ∷ []) 10 (eqb-true c 10 h) refl refl d
    go false true h k d = wrong ([] ∷ [] ∷ fs) 44 (eqb-true c 44 k) refl refl d
    go false false h k d = record { said = ap (judged t s) d; rest = λ i j. g h }

pub begun_comma : (t : Sizes) (s : Progress) (text rest : List ℕ) → 1 < length text → get_or text 1 0 ≡ 44 → rest ≡ drop 2 text
    → Begun t s text (get_or text 0 0) (fields (first_line rest)) (after_line rest)
begun_comma t s [] rest l e r = absurd (omega arith)
begun_comma t s (c ∷ []) rest l e r = absurd (omega arith)
begun_comma t s (c ∷ d ∷ cs) rest l e r = subst (λ x. Begun t s (c ∷ x ∷ cs) c (fields (first_line rest)) (after_line rest)) (sym e)
    (subst (λ x. Begun t s (c ∷ 44 ∷ cs) c (fields (first_line x)) (after_line x)) (sym r)
    (begun_by t s c (c ∷ 44 ∷ cs) (fields (first_line cs)) (after_line cs) (go (eqb c 10) (eqb c 44) refl) (λ h. ap (λ (b : Bool). cond b (44 ∷ cs) (after_line cs)) h)))
  where
    go : (x y : Bool) → eqb c 44 ≡ y
        → fields (cond x [] (c ∷ 44 ∷ first_line cs)) ≡ cond x ([] ∷ []) (cond y ([] ∷ [] ∷ fields (first_line cs)) ((c ∷ []) ∷ fields (first_line cs)))
    go true y h = refl
    go false y h = ap (λ (b : Bool). cond b ([] ∷ [] ∷ fields (first_line cs)) ((c ∷ []) ∷ fields (first_line cs))) h

pub begun_feed : (t : Sizes) (s : Progress) (text rest : List ℕ) → 1 < length text → get_or text 1 0 ≡ 10 → rest ≡ drop 2 text
    → Begun t s text (get_or text 0 0) [] rest
begun_feed t s [] rest l e r = absurd (omega arith)
begun_feed t s (c ∷ []) rest l e r = absurd (omega arith)
begun_feed t s (c ∷ d ∷ cs) rest l e r = subst (λ x. Begun t s (c ∷ x ∷ cs) c [] rest) (sym e)
    (subst (λ x. Begun t s (c ∷ 10 ∷ cs) c [] x) (sym r)
    (begun_by t s c (c ∷ 10 ∷ cs) [] cs (go (eqb c 10) (eqb c 44) refl) (λ h. ap (λ (b : Bool). cond b (10 ∷ cs) cs) h)))
  where
    go : (x y : Bool) → eqb c 44 ≡ y → fields (cond x [] (c ∷ [])) ≡ cond x ([] ∷ []) (cond y ([] ∷ [] ∷ []) ((c ∷ []) ∷ []))
    go true y h = refl
    go false y h = ap (λ (b : Bool). cond b ([] ∷ [] ∷ []) ((c ∷ []) ∷ [])) h

pub begun_alone : (t : Sizes) (s : Progress) (text : List ℕ) → length text ≡ 1 → Begun t s text (get_or text 0 0) [] []
begun_alone t s [] l = absurd (omega arith)
begun_alone t s (c ∷ []) l = begun_by t s c (c ∷ []) [] [] (go (eqb c 10) (eqb c 44) refl) (λ h. ap (λ (b : Bool). cond b [] []) h)
  where
    go : (x y : Bool) → eqb c 44 ≡ y → fields (cond x [] (c ∷ [])) ≡ cond x ([] ∷ []) (cond y ([] ∷ [] ∷ []) ((c ∷ []) ∷ []))
    go true y h = refl
    go false y h = ap (λ (b : Bool). cond b ([] ∷ [] ∷ []) ((c ∷ []) ∷ [])) h
begun_alone t s (c ∷ d ∷ cs) l = absurd (omega arith)

-- a line is judged by its letter and what it goes on with
pub judged_line : (t : Sizes) (s : Progress) (text : List ℕ) (letter : ℕ) (next : Next) (r : Result Judged Fault) → Begun t s text letter (fields_in next) (after_in next)
    → JudgesLine t s letter next r → Judges t s text r
judged_line t s text letter next (Ok j) b h =
    let e : judged t s (fields (first_line text)) ≡ Ok j.item = b.said ∙ h.item in
    record { item = e; rest = h.rest ∙ sym (b.rest j.item e); allowed = judged_allowed t s (fields (first_line text)) j.item e }
judged_line t s text letter next (Err f) b h = b.said ∙ h

-- a text whose second byte is no comma is refused, if it does not begin with a posting's mark: a line feed there leaves the letter
-- alone, any other byte lengthens the mark
pub no_comma : (t : Sizes) (s : Progress) (text : List ℕ) → 1 < length text → (get_or text 1 0 ≡ 44 → ⊥) → (letter_mark (get_or text 0 0) ≡ Some Posting → ⊥)
    → judged t s (fields (first_line text)) ≡ Err Form
no_comma t s text l n p =
    let P : Bool → Type 0 = λ b. eqb (get_or text 1 0) 10 ≡ b → judged t s (fields (first_line text)) ≡ Err Form in
    (elim (eqb (get_or text 1 0) 10) as P [
      | true ↦ λ h. (begun_feed t s text (drop 2 text) l (eqb-true (get_or text 1 0) 10 h) refl).said ∙ alone_form t s (get_or text 0 0) p
      | false ↦ λ h. unmarked t s text l n (eqb-false (get_or text 1 0) 10 h)
    ]) refl
