-- What is written, line by line, is read.
use Rattle.std.proofs.Common.{◌≡◌, ℕ, zero, suc, ◌-◌, ◌^◌, ◌<◌, ◌≤◌, min, Bool, true, cond, List, [], ◌∷◌, ◌++◌, length, get_or, ℤ, pos, negsuc, neg_ℤ, Some, Ok, Err, decimal, Option, Result, sym, refl, ap, ◌∙◌, arith, lt-ltb, eq-eqb, ne_eqb}
use Rattle.std.specs.Option.{option_map}
use Rattle.std.specs.Int.{IsInRange}
use Rattle.std.specs.Fmt.{signed_decimal}
use Rattle.std.proofs.lemmas.Fmt.{decimal_nonempty}
use Rattle.std.proofs.lemmas.List.{append_assoc, append-nil, length_push, get_or_push}
use Rattle.std.proofs.lemmas.Bool.{and_from}
use Rattle.journal.specs.Entries.{InRange}
use Rattle.batch.specs.declared.records.OrderLine.{OrderLine}
use Rattle.batch.specs.declared.records.OrderLine.TheVariants as line
use Rattle.batch.specs.declared.items.Kind.{Kind}
use Rattle.batch.specs.declared.items.Kind.TheVariants.{Take, Join, Set, Raise, Need, Write}
use Rattle.batch.specs.declared.items.Mark.{Mark}
use Rattle.batch.specs.declared.items.Mark.TheVariants.{Begin, Opening, House, Posting, Order, Run}
use Rattle.batch.specs.declared.items.Item.{Item}
use Rattle.batch.specs.declared.items.Item.TheVariants.{Begins, Opened, Kept, Posts, Orders, Runs}
use Rattle.batch.specs.declared.items.Fault.{Fault}
use Rattle.batch.specs.declared.items.Fault.TheVariants.{Form, Place, Room}
use Rattle.batch.specs.declared.items.BatchRefusal.TheVariants.{End}
use Rattle.batch.specs.declared.progress.Progress.{Progress}
use Rattle.batch.specs.declared.progress.Sizes.{Sizes}
use Rattle.batch.specs.Fields.{natural, cents, nonzero}
use Rattle.batch.specs.Limits.{Within, Allowed, mark_of}
use Rattle.batch.specs.Marks.{code, kind_code, field_count, stands, follows, counts}
use Rattle.batch.specs.Parts.{onto, parts, fields, lines}
use Rattle.batch.specs.Progress.{sofar, houses_in, workers_in}
use Rattle.batch.specs.Reading.{said, closes, ended, batch_of_any_length, Lawful}
use Rattle.batch.specs.Rules.{ask, order_in, said_by, room_for, seated, tested, judged}
use Rattle.batch.specs.Tables.{seen_in}
use Rattle.batch.specs.Texts.{commas, ReadsBack}
use Rattle.batch.proofs.Back.{item_fields, item_line, written, same_line, same_past}
use Rattle.batch.proofs.Digits.{decimal_at, natural_some}
use Rattle.batch.proofs.Said.{said_ok, any_lines}
use Rattle.batch.proofs.Signs.{cents_plain}
use Rattle.batch.proofs.Told.{lawful_state, said_cons, written_text}

-- bytes above this one

abbrev Over : ℕ → List ℕ → Type 0
Over d [] = Unit {0}
Over d (c ∷ cs) = (d < c) × Over d cs

over_by : (d : ℕ) (s : List ℕ) → ((i : ℕ) → i < length s → d < get_or s i 0) → Over d s
over_by d [] h = tt
over_by d (c ∷ cs) h = (h 0 (omega arith), over_by d cs (λ i l. h (suc i) (omega arith)))

over_less : (d e : ℕ) (s : List ℕ) → d ≤ e → Over e s → Over d s
over_less d e [] l h = tt
over_less d e (c ∷ cs) l h = (omega (arith, h.0), over_less d e cs l h.1)

over_append : (d : ℕ) (s r : List ℕ) → Over d s → Over d r → Over d (s ++ r)
over_append d [] r h k = k
over_append d (c ∷ cs) r h k = (h.0, over_append d cs r h.1 k)

-- numbers have neither commas nor line feeds

over_decimal : (n : ℕ) → n < 2 ^ 64 → Over 44 (decimal n)
over_decimal n h = over_by 44 (decimal n) (λ i l. (let d : IsInRange 48 57 (get_or (decimal n) i 0) = decimal_at n i h l in omega (arith, d)))

over_signed : (v : ℤ) → InRange v → Over 44 (signed_decimal v)
over_signed (pos n) h = over_decimal n (omega arith)
over_signed (negsuc n) h = (omega arith, over_decimal (suc n) (omega arith))

-- a text is cut at the first d

parts_cut : (d : ℕ) (none : List (List ℕ)) (s r : List ℕ) → Over d s → parts d none (s ++ (d ∷ r)) ≡ s ∷ parts d none r
parts_cut d none [] r h = ap (λ (b : Bool). cond b ([] ∷ parts d none r) (onto d (parts d none r))) (eq-eqb d d refl)
parts_cut d none (c ∷ cs) r h =
    ap (λ (b : Bool). cond b ([] ∷ parts d none (cs ++ (d ∷ r))) (onto c (parts d none (cs ++ (d ∷ r))))) (ne_eqb c d (λ e. omega (arith, h.0)))
    ∙ ap (onto c) (parts_cut d none cs r h.1)

fields_one : (s : List ℕ) → Over 44 s → fields s ≡ s ∷ []
fields_one [] h = refl
fields_one (c ∷ cs) h =
    ap (λ (b : Bool). cond b ([] ∷ fields cs) (onto c (fields cs))) (ne_eqb c 44 (λ e. omega (arith, h.0))) ∙ ap (onto c) (fields_one cs h.1)

-- fields that are parted by commas are cut again

abbrev AllOver : List (List ℕ) → Type 0
AllOver [] = Unit {0}
AllOver (f ∷ fs) = Over 44 f × AllOver fs

fields_parted : (f : List ℕ) (fs : List (List ℕ)) → AllOver (f ∷ fs) → fields (commas (f ∷ fs)) ≡ f ∷ fs
fields_parted f [] h = fields_one f h.0
fields_parted f (g ∷ fs) h = parts_cut 44 ([] ∷ []) f (commas (g ∷ fs)) h.0 ∙ ap (λ l. f ∷ l) (fields_parted g fs h.1)

over_parted : (f : List ℕ) (fs : List (List ℕ)) → AllOver (f ∷ fs) → Over 10 (commas (f ∷ fs))
over_parted f [] h = over_less 10 44 f (omega arith) h.0
over_parted f (g ∷ fs) h = over_append 10 f (44 ∷ commas (g ∷ fs)) (over_less 10 44 f (omega arith) h.0) (omega arith, over_parted g fs h.1)

-- numbers are read as they are written

natural_is : (low high n : ℕ) → low ≤ n → n ≤ high → n < 2 ^ 64 → natural low high (decimal n) ≡ Some n
natural_is low high n l h b = natural_some low high n (decimal n) b refl l h

cents_is : (v : ℤ) → InRange v → cents (signed_decimal v) ≡ Some v
unfolding cents
cents_is (pos n) h =
    let some = decimal_nonempty n (omega arith) in
    let d : IsInRange 48 57 (get_or (decimal n) 0 0) = decimal_at n 0 (omega arith) (omega arith) in
    cents_plain (decimal n) (λ l e. omega (arith, d)) ∙ ap (option_map pos) (natural_is 0 1000000000000000 n (omega arith) h (omega arith))
cents_is (negsuc n) h = ap (option_map (λ m. neg_ℤ (pos m))) (natural_is 1 1000000000000000 (suc n) (omega arith) h (omega arith))

nonzero_is : (v : ℤ) → (v ≡ pos 0 → ⊥) → nonzero (Some v) ≡ Some v
nonzero_is (pos zero) h = absurd (h refl)
nonzero_is (pos (suc n)) h = refl
nonzero_is (negsuc n) h = refl

ask_some : {X : Type 0} (k : ℕ) (o : Option X) (x : X) (next : X → Result Item Fault) → o ≡ Some x → ask k o next ≡ next x
ask_some k o x next e = ap (λ v. ask k v next) e

-- a line whose tests all pass
tested_from : (t : Sizes) (s : Progress) (n : ℕ) (m : Mark) (a b c : List ℕ) (i : Item) → n ≡ field_count m → stands s m ≡ true → said_by s m a b c ≡ Ok i → room_for t s i ≡ true
    → tested t s n (Some m) a b c ≡ Ok i
tested_from t s n m a b c i e p q r =
    ap (λ (x : Bool). cond x (cond (stands s m) (seated t s (said_by s m a b c)) (Err Place)) (Err Form)) (eq-eqb n (field_count m) e)
    ∙ ap (λ (x : Bool). cond x (seated t s (said_by s m a b c)) (Err Place)) p ∙ ap (seated t s) q ∙ ap (λ (x : Bool). cond x (Ok i) (Err Room)) r

-- what is known of every line's past
pub record Known (s : Progress) : Type 0 where
  pub houses : s.houses ≤ 16
  pub workers : s.workers ≤ 8

order_is : (s : Progress) (o : OrderLine) (k : Kind) (a : List ℕ) → order_in k a ≡ Some o → said_by s (Order k) a [] [] ≡ Ok (Orders o)
order_is s o k a e = ask_some 2 (order_in k a) o _ e

stood : (s : Progress) (m : Mark) → follows m s.stage ≡ true → counts s m ≡ true → stands s m ≡ true
stood s m f c = and_from (follows m s.stage) (counts s m) f c

-- what is allowed is said by its fields
judged_is : (t : Sizes) (s : Progress) (i : Item) → Known s → Allowed t s i → judged t s (item_fields s.seen i) ≡ Ok i
judged_is t s (Begins h) k a =
    let w = a.within in
    tested_from t s 4 Begin (decimal h.houses) (decimal h.workers) (decimal h.patience) (Begins h) refl (stood s Begin a.place refl)
    (ask_some 2 (natural 1 16 (decimal h.houses)) h.houses _ (natural_is 1 16 h.houses w.0.0 w.0.1 (omega (arith, w.0.1)))
    ∙ ask_some 3 (natural 1 8 (decimal h.workers)) h.workers _ (natural_is 1 8 h.workers w.1.0 w.1.1 (omega (arith, w.1.1)))
    ∙ ask_some 4 (natural 1 1000 (decimal h.patience)) h.patience _ (natural_is 1 1000 h.patience w.2.0 w.2.1 (omega (arith, w.2.1))))
    a.room
judged_is t s (Opened o) k a =
    let w = a.within in
    tested_from t s 3 Opening (decimal o.account) (signed_decimal o.cents) [] (Opened o) refl (stood s Opening a.place refl)
    (ask_some 2 (natural s.account 63 (decimal o.account)) o.account _ (natural_is s.account 63 o.account w.0 w.1 (omega (arith, w.1)))
    ∙ ask_some 3 (nonzero (cents (signed_decimal o.cents))) o.cents _ (ap nonzero (cents_is o.cents w.2) ∙ nonzero_is o.cents w.3))
    a.room
judged_is t s (Kept h) k a =
    let w = a.within in
    tested_from t s 3 House (decimal s.seen) (decimal h) [] (Kept h) refl (stood s House a.place refl)
    (ask_some 2 (natural s.seen (min s.seen (s.houses - 1)) (decimal s.seen)) s.seen _
    (natural_is s.seen (min s.seen (s.houses - 1)) s.seen (omega arith) (omega (arith, w.0)) (omega (arith, w.0, k.houses)))
    ∙ ask_some 3 (natural 0 (s.workers - 1) (decimal h)) h _ (natural_is 0 (s.workers - 1) h (omega arith) w.1 (omega (arith, w.1, k.workers))))
    a.room
judged_is t s Posts k a = tested_from t s 1 Posting [] [] [] Posts refl (stood s Posting a.place (lt-ltb s.here 4096 a.within)) refl a.room
judged_is t s (Orders (line.Take n)) k a =
    let w = a.within in
    tested_from t s 2 (Order Take) (decimal n) [] [] (Orders (line.Take n)) refl (stood s (Order Take) a.place (lt-ltb s.lines 16 w.0))
    (order_is s (line.Take n) Take (decimal n) (ap (option_map line.Take) (natural_is 0 63 n (omega arith) w.1 (omega (arith, w.1))))) a.room
judged_is t s (Orders (line.Join n)) k a =
    let w = a.within in
    tested_from t s 2 (Order Join) (decimal n) [] [] (Orders (line.Join n)) refl (stood s (Order Join) a.place (lt-ltb s.lines 16 w.0))
    (order_is s (line.Join n) Join (decimal n) (ap (option_map line.Join) (natural_is 0 63 n (omega arith) w.1 (omega (arith, w.1))))) a.room
judged_is t s (Orders (line.Set v)) k a =
    let w = a.within in
    tested_from t s 2 (Order Set) (signed_decimal v) [] [] (Orders (line.Set v)) refl (stood s (Order Set) a.place (lt-ltb s.lines 16 w.0))
    (order_is s (line.Set v) Set (signed_decimal v) (ap (option_map line.Set) (cents_is v w.1))) a.room
judged_is t s (Orders (line.Raise v)) k a =
    let w = a.within in
    tested_from t s 2 (Order Raise) (signed_decimal v) [] [] (Orders (line.Raise v)) refl (stood s (Order Raise) a.place (lt-ltb s.lines 16 w.0))
    (order_is s (line.Raise v) Raise (signed_decimal v) (ap (option_map line.Raise) (cents_is v w.1))) a.room
judged_is t s (Orders (line.Need v)) k a =
    let w = a.within in
    tested_from t s 2 (Order Need) (signed_decimal v) [] [] (Orders (line.Need v)) refl (stood s (Order Need) a.place (lt-ltb s.lines 16 w.0))
    (order_is s (line.Need v) Need (signed_decimal v) (ap (option_map line.Need) (cents_is v w.1))) a.room
judged_is t s (Orders (line.Write n)) k a =
    let w = a.within in
    tested_from t s 2 (Order Write) (decimal n) [] [] (Orders (line.Write n)) refl (stood s (Order Write) a.place (lt-ltb s.lines 16 w.0))
    (order_is s (line.Write n) Write (decimal n) (ap (option_map line.Write) (natural_is 0 63 n (omega arith) w.1 (omega (arith, w.1))))) a.room
judged_is t s (Runs r) k a =
    let w = a.within in
    tested_from t s 3 Run (decimal r.worker) (decimal r.count) [] (Runs r) refl (stood s Run a.place refl)
    (ask_some 2 (natural 0 (s.workers - 1) (decimal r.worker)) r.worker _ (natural_is 0 (s.workers - 1) r.worker (omega arith) w.0 (omega (arith, w.0, k.workers)))
    ∙ ask_some 3 (natural 1 10000 (decimal r.count)) r.count _ (natural_is 1 10000 r.count w.1 w.2 (omega (arith, w.2))))
    a.room

-- its fields after the mark, which is one letter

abbrev rest_of : ℕ → Item → List (List ℕ)
rest_of seen (Begins h) = decimal h.houses ∷ decimal h.workers ∷ decimal h.patience ∷ []
rest_of seen (Opened o) = decimal o.account ∷ signed_decimal o.cents ∷ []
rest_of seen (Kept k) = decimal seen ∷ decimal k ∷ []
rest_of seen Posts = []
rest_of seen (Orders (line.Take a)) = decimal a ∷ []
rest_of seen (Orders (line.Join a)) = decimal a ∷ []
rest_of seen (Orders (line.Set v)) = signed_decimal v ∷ []
rest_of seen (Orders (line.Raise v)) = signed_decimal v ∷ []
rest_of seen (Orders (line.Need v)) = signed_decimal v ∷ []
rest_of seen (Orders (line.Write a)) = decimal a ∷ []
rest_of seen (Runs r) = decimal r.worker ∷ decimal r.count ∷ []

fields_are : (seen : ℕ) (i : Item) → item_fields seen i ≡ (code (mark_of i) ∷ []) ∷ rest_of seen i
fields_are seen (Begins h) = refl
fields_are seen (Opened o) = refl
fields_are seen (Kept k) = refl
fields_are seen Posts = refl
fields_are seen (Orders (line.Take a)) = refl
fields_are seen (Orders (line.Join a)) = refl
fields_are seen (Orders (line.Set v)) = refl
fields_are seen (Orders (line.Raise v)) = refl
fields_are seen (Orders (line.Need v)) = refl
fields_are seen (Orders (line.Write a)) = refl
fields_are seen (Runs r) = refl

over_kind : (k : Kind) → 44 < kind_code k
over_kind Take = omega arith
over_kind Join = omega arith
over_kind Set = omega arith
over_kind Raise = omega arith
over_kind Need = omega arith
over_kind Write = omega arith

over_code : (m : Mark) → 44 < code m
over_code Begin = omega arith
over_code Opening = omega arith
over_code House = omega arith
over_code Posting = omega arith
over_code (Order k) = over_kind k
over_code Run = omega arith

over_rest : (s : Progress) (i : Item) → Known s → Within s i → AllOver (rest_of s.seen i)
over_rest s (Begins h) k w =
    (over_decimal h.houses (omega (arith, w.0.1)), (over_decimal h.workers (omega (arith, w.1.1)), (over_decimal h.patience (omega (arith, w.2.1)), tt)))
over_rest s (Opened o) k w = (over_decimal o.account (omega (arith, w.1)), (over_signed o.cents w.2, tt))
over_rest s (Kept h) k w = (over_decimal s.seen (omega (arith, w.0, k.houses)), (over_decimal h (omega (arith, w.1, k.workers)), tt))
over_rest s Posts k w = tt
over_rest s (Orders (line.Take a)) k w = (over_decimal a (omega (arith, w.1)), tt)
over_rest s (Orders (line.Join a)) k w = (over_decimal a (omega (arith, w.1)), tt)
over_rest s (Orders (line.Set v)) k w = (over_signed v w.1, tt)
over_rest s (Orders (line.Raise v)) k w = (over_signed v w.1, tt)
over_rest s (Orders (line.Need v)) k w = (over_signed v w.1, tt)
over_rest s (Orders (line.Write a)) k w = (over_decimal a (omega (arith, w.1)), tt)
over_rest s (Runs r) k w = (over_decimal r.worker (omega (arith, w.0, k.workers)), (over_decimal r.count (omega (arith, w.2)), tt))

-- a line without its line feed

abbrev line_for : ℕ → Item → List ℕ
line_for seen i = commas ((code (mark_of i) ∷ []) ∷ rest_of seen i)

line_is : (seen : ℕ) (i : Item) → item_line seen i ≡ line_for seen i ++ (10 ∷ [])
line_is seen i = sym (same_line seen i) ∙ ap (λ fs. commas fs ++ (10 ∷ [])) (fields_are seen i)

line_judged : (t : Sizes) (s : Progress) (i : Item) → Known s → Allowed t s i → judged t s (fields (line_for s.seen i)) ≡ Ok i
line_judged t s i k a =
    ap (judged t s) (fields_parted (code (mark_of i) ∷ []) (rest_of s.seen i) ((over_code (mark_of i), tt), over_rest s i k a.within) ∙ sym (fields_are s.seen i))
    ∙ judged_is t s i k a

-- all lines, in their order

workers_few : (t : Sizes) (past : List Item) → Lawful t past → workers_in past ≤ 8
workers_few t [] w = omega arith
workers_few t (Begins h ∷ past) w = w.0.within.1.1
workers_few t (Opened o ∷ past) w = workers_few t past w.1
workers_few t (Kept k ∷ past) w = workers_few t past w.1
workers_few t (Posts ∷ past) w = workers_few t past w.1
workers_few t (Orders o ∷ past) w = workers_few t past w.1
workers_few t (Runs r ∷ past) w = workers_few t past w.1

known : (t : Sizes) (past : List Item) → Lawful t past → Known (sofar past)
known t past w = record { houses = (lawful_state t past w).houses; workers = workers_few t past w }

unfoldable lines_in : List Item → List (List ℕ)
lines_in [] = []
lines_in (i ∷ past) = lines_in past ++ (line_for (seen_in past) i ∷ [])

lines_written : (t : Sizes) (past : List Item) (r : List ℕ) → Lawful t past → lines (written past ++ r) ≡ lines_in past ++ lines r
unfolding written lines_in
lines_written t [] r w = refl
lines_written t (i ∷ past) r w =
    let l = line_for (seen_in past) i in
    let over : Over 10 l = over_parted (code (mark_of i) ∷ []) (rest_of (seen_in past) i) ((over_code (mark_of i), tt), over_rest (sofar past) i (known t past w.1) w.0.within) in
    ap lines (append_assoc (written past) (item_line (seen_in past) i) r) ∙ lines_written t past (item_line (seen_in past) i ++ r) w.1
    ∙ ap (λ x. lines_in past ++ lines (x ++ r)) (line_is (seen_in past) i) ∙ ap (λ x. lines_in past ++ lines x) (append_assoc l (10 ∷ []) r)
    ∙ ap (λ x. lines_in past ++ x) (parts_cut 10 [] l r over) ∙ sym (append_assoc (lines_in past) (l ∷ []) (lines r))

said_append : (t : Sizes) (past : List Item) (ls ms : List (List ℕ)) (end : List Item) → said t past ls ≡ Ok end → said t past (ls ++ ms) ≡ said t end ms
said_append t past [] ms end e = ap (λ p. said t p ms) (same_past past end e)
said_append t past (l ∷ ls) ms end e =
    let a = said_cons t past l ls end e in
    said_ok t past l (ls ++ ms) a.0 a.1 ∙ said_append t (a.0 ∷ past) ls ms end a.2

said_written : (t : Sizes) (past : List Item) → Lawful t past → said t [] (lines_in past) ≡ Ok past
unfolding lines_in
said_written t [] w = refl
said_written t (i ∷ past) w =
    let l = line_for (seen_in past) i in
    said_append t [] (lines_in past) (l ∷ []) past (said_written t past w.1) ∙ said_ok t past l [] i (line_judged t (sofar past) i (known t past w.1) w.0)

-- the whole text

feed_last : (s : List ℕ) → get_or (s ++ (10 ∷ [])) (length (s ++ (10 ∷ [])) - 1) 0 ≡ 10
feed_last s = get_or_push s 10 0 (length (s ++ (10 ∷ [])) - 1) (omega (arith, length_push s 10))

written_ends : (i : Item) (past : List Item) → (s : List ℕ) × (written (i ∷ past) ≡ s ++ (10 ∷ []))
unfolding written
written_ends i past =
    (written past ++ line_for (seen_in past) i, ap (λ x. written past ++ x) (line_is (seen_in past) i) ∙ sym (append_assoc (written past) (line_for (seen_in past) i) (10 ∷ [])))

read_more : (t : Sizes) (i : Item) (past : List Item) → Lawful t (i ∷ past) → seen_in (i ∷ past) ≡ houses_in (i ∷ past) → batch_of_any_length t (written (i ∷ past)) ≡ Ok (i ∷ past)
read_more t i past w e =
    let all = i ∷ past in
    let end = written_ends i past in
    let some : 0 < length (written all) = omega (arith, ap length end.1, length_push end.0 10) in
    let feed : get_or (written all) (length (written all) - 1) 0 ≡ 10 = ap (λ s. get_or s (length s - 1) 0) end.1 ∙ feed_last end.0 in
    let closed : closes (written all) all ≡ true = and_from _ _ (eq-eqb (get_or (written all) (length (written all) - 1) 0) 10 feed) (eq-eqb (seen_in all) (houses_in all) e) in
    let read : said t [] (lines (written all)) ≡ Ok all =
    ap (λ s. said t [] (lines s)) (sym (append-nil (written all))) ∙ ap (said t []) (lines_written t all [] w ∙ append-nil (lines_in all)) ∙ said_written t all w in
    any_lines t (written all) some ∙ ap (ended (written all)) read ∙ ap (λ (b : Bool). cond b (Ok all) (Err (End (length all)))) closed

-- lines that may come one after the other, to the last house, are read back from their text
pub read_forth : (t : Sizes) (past : List Item) → Lawful t past → seen_in past ≡ houses_in past → batch_of_any_length t (written past) ≡ Ok past
read_forth t [] w e = absurd (omega arith)
read_forth t (i ∷ past) w e = read_more t i past w e

pub reads_back : ReadsBack
reads_back t past w e = ap (batch_of_any_length t) (sym (written_text t past w e)) ∙ read_forth t past w e
