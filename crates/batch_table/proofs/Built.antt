-- Records in order are those of some batch.
use Rattle.std.proofs.Common.{◌≡◌, ℕ, zero, suc, ◌+◌, ◌-◌, ◌<◌, ◌≤◌, Bool, true, leb, List, [], ◌∷◌, ◌++◌, length, take, drop, Decides, sym, refl, ap, ◌∙◌, subst, arith}
use Rattle.std.proofs.lemmas.List.{append-nil, append_assoc, length-append, length-take, take_all}
use Rattle.std.proofs.lemmas.Bool.{and_parts, leb-true, lt-ltb}
use Rattle.batch.specs.declared.records.Posting.{Posting}
use Rattle.batch.specs.declared.records.OrderLine.{OrderLine}
use Rattle.batch.specs.declared.items.Item.{Item}
use Rattle.batch.specs.declared.items.Item.TheVariants.{Begins, Kept, Posts, Orders}
use Rattle.batch.specs.declared.items.Mark.TheVariants.{House, Order, Posting as PostingMark}
use Rattle.batch.specs.declared.progress.Stage.TheVariants.{Drafting}
use Rattle.batch.specs.declared.progress.Sizes.{Sizes}
use Rattle.batch.specs.Limits.{kind_of}
use Rattle.batch.specs.Marks.{follows}
use Rattle.batch.specs.Progress.{stage_after, houses_in, here_after, lines_after}
use Rattle.batch.specs.Reading.{Lawful}
use Rattle.batch.specs.Tables.{seen_in, postings_in, orders_in}
use Rattle.batch.specs.Texts.{first_of, between}
use Rattle.batch.proofs.Back.{written}
use Rattle.batch.proofs.Forth.{read_forth}
use Rattle.batch.proofs.Rolling.{planned_houses}
use Rattle.batch_table.specs.declared.in_order.Reached.{Reached}
use Rattle.batch_table.specs.Given.{Given}
use Rattle.batch_table.specs.InOrder.{unbegun, ends_at, here_with, reached_with, all_allowed, last_reached, from_a_batch}
use Rattle.batch_table.specs.OrderLines.{line_in_range, lines_in_range}
use Rattle.batch_table.proofs.GivenRecords.{last_push, here_with_lem, EvenAfter, lawful_even, given_passes}
use Rattle.batch_table.proofs.Orderly.{all_parts, order_parts, firsts_in, next_few, begins_first}
use Rattle.batch_table.proofs.TableLimits.{range_between, range_ordered}

-- lines of a batch, the latest first: this many houses more, order lines more, postings with their order lines more

unfoldable housed : ℕ → List Item → List Item
housed zero past = past
housed (suc n) past = Kept 0 ∷ housed n past

unfoldable ordered : List OrderLine → List Item → List Item
ordered [] past = past
ordered (o ∷ os) past = ordered os (Orders o ∷ past)

unfoldable posted : List Posting → List OrderLine → List Item → List Item
posted [] os past = past
posted (p ∷ ps) os past =
    posted ps os (ordered (between p.first (first_of ps (length os)) os) (Posts ∷ housed (suc p.house - seen_in past) past))

-- lawful lines that give these records, after which a house may come, and a posting if there is a house
record Built (t : Sizes) (houses : ℕ) (ps : List Posting) (os : List OrderLine) (past : List Item) : Type 0 where
  lawful : Lawful t past
  head : houses_in past ≡ houses
  postings : postings_in past ≡ ps
  lines : orders_in past ≡ os
  house : follows House (stage_after past) ≡ true
  posting : 1 ≤ seen_in past → follows PostingMark (stage_after past) ≡ true

-- more houses

house_more : (t : Sizes) (houses : ℕ) (ps : List Posting) (os : List OrderLine) (past : List Item) → Built t houses ps os past → seen_in past < houses → Built t houses ps os (Kept 0 ∷ past)
house_more t houses ps os past b h = record {
  lawful = (record { place = b.house; within = (omega (arith, b.head), omega arith); room = refl }, b.lawful);
  head = b.head;
  postings = append-nil (postings_in past) ∙ b.postings;
  lines = append-nil (orders_in past) ∙ b.lines;
  house = refl;
  posting = λ k. refl;
}

seen_housed : (n : ℕ) (past : List Item) → seen_in (housed n past) ≡ seen_in past + n
unfolding housed
seen_housed zero past = omega arith
seen_housed (suc n) past = omega (arith, seen_housed n past)

houses_more : (t : Sizes) (houses : ℕ) (ps : List Posting) (os : List OrderLine) (n : ℕ) (past : List Item) → Built t houses ps os past → seen_in past + n ≤ houses
    → Built t houses ps os (housed n past)
unfolding housed
houses_more t houses ps os zero past b h = b
houses_more t houses ps os (suc n) past b h =
    house_more t houses ps os (housed n past) (houses_more t houses ps os n past b (omega arith)) (omega (arith, seen_housed n past))

-- more order lines of a posting

order_more : (t : Sizes) (houses : ℕ) (ps : List Posting) (os : List OrderLine) (o : OrderLine) (past : List Item) → Built t houses ps os past → stage_after past ≡ Drafting → lines_after past < 16
    → length os < t.orders → line_in_range o ≡ true → Built t houses ps (os ++ (o ∷ [])) (Orders o ∷ past)
order_more t houses ps os o past b s l h r = record {
  lawful = (
    record {
      place = ap (follows (Order (kind_of o))) s;
      within = (l, range_ordered o r);
      room = lt-ltb (length (orders_in past)) t.orders (omega (arith, ap length b.lines));
    },
    b.lawful,
  );
  head = b.head;
  postings = append-nil (postings_in past) ∙ b.postings;
  lines = ap (λ l. l ++ (o ∷ [])) b.lines;
  house = refl;
  posting = λ k. refl;
}

seen_ordered : (xs : List OrderLine) (past : List Item) → seen_in (ordered xs past) ≡ seen_in past
unfolding ordered
seen_ordered [] past = refl
seen_ordered (o ∷ xs) past = seen_ordered xs (Orders o ∷ past)

orders_more : (t : Sizes) (houses : ℕ) (ps : List Posting) (os xs : List OrderLine) (past : List Item) → Built t houses ps os past → stage_after past ≡ Drafting
    → lines_after past + length xs ≤ 16 → length os + length xs ≤ t.orders → lines_in_range xs ≡ true → Built t houses ps (os ++ xs) (ordered xs past)
unfolding ordered
orders_more t houses ps os [] past b s l h r = subst (λ y. Built t houses ps y past) (sym (append-nil os)) b
orders_more t houses ps os (o ∷ xs) past b s l h r =
    let a = and_parts (line_in_range o) _ r in
    subst (λ y. Built t houses ps y (ordered xs (Orders o ∷ past))) (append_assoc os (o ∷ []) xs)
    (orders_more t houses ps (os ++ (o ∷ [])) xs (Orders o ∷ past) (order_more t houses ps os o past b s (omega arith) (omega arith) a.0) refl (omega arith)
    (omega (arith, length-append os (o ∷ []))) a.1)

-- one posting more

same_posting : (p : Posting) (house first : ℕ) → house ≡ p.house → first ≡ p.first → ◌≡◌ {A = Posting} record { house = house; first = first } p
same_posting p house first e f = ap (λ x. record { house = x; first = first }) e ∙ ap (λ x. record { house = p.house; first = x }) f

posting_more : (t : Sizes) (houses : ℕ) (ps : List Posting) (os : List OrderLine) (p : Posting) (past : List Item) → Built t houses ps os past → seen_in past ≡ suc p.house
    → p.first ≡ length os → here_with (last_reached unbegun ps) p ≤ 4096 → length ps < t.postings → Built t houses (ps ++ (p ∷ [])) os (Posts ∷ past)
posting_more t houses ps os p past b s f h r =
    let even : EvenAfter past = lawful_even t past b.lawful in
    let count = here_with_lem (houses_in past) (seen_in past) (here_after past) (lines_after past) (postings_in past) (orders_in past) p even (omega arith) (omega arith) in
    let here : here_after past < 4096 = omega (arith, count, ap (λ l. here_with (last_reached unbegun l) p) b.postings) in
    let q : Posting = record { house = seen_in past - 1; first = length (orders_in past) } in
    let same : q ≡ p = same_posting p (seen_in past - 1) (length (orders_in past)) (omega arith) (omega (arith, ap length b.lines)) in
    record {
      lawful = (record { place = b.posting (omega arith); within = here; room = lt-ltb (length (postings_in past)) t.postings (omega (arith, ap length b.postings)) }, b.lawful);
      head = b.head;
      postings = ap (λ l. l ++ (q ∷ [])) b.postings ∙ ap (λ x. ps ++ (x ∷ [])) same;
      lines = append-nil (orders_in past) ∙ b.lines;
      house = refl;
      posting = λ k. refl;
    }

take_none : {X : Type 0} (n : ℕ) → take {A = X} n [] ≡ []
take_none zero = refl
take_none (suc n) = refl

take_between : {X : Type 0} (a b : ℕ) (xs : List X) → a ≤ b → take a xs ++ between a b xs ≡ take b xs
take_between zero b xs l = let e : b - 0 ≡ b = omega arith in ap (λ n. take n xs) e
take_between (suc a) zero xs l = absurd (omega arith)
take_between (suc a) (suc b) [] l = let e : suc b - suc a ≡ b - a = omega arith in ap (λ n. take n []) e ∙ take_none (b - a)
take_between (suc a) (suc b) (x ∷ xs) l =
    let e : suc b - suc a ≡ b - a = omega arith in
    ap (λ n. x ∷ (take a xs ++ take n (drop a xs))) e ∙ ap (λ l. x ∷ l) (take_between a b xs (omega arith))

-- all postings

posted_built : (t : Sizes) (houses : ℕ) (qs : List Posting) (s : Reached) (ps : List Posting) (os : List OrderLine) (past : List Item) → last_reached unbegun qs ≡ s
    → Built t houses qs (take (first_of ps (length os)) os) past → seen_in past ≤ suc s.house → all_allowed houses s ps ≡ true → ends_at (last_reached s ps) (length os) ≡ true
    → lines_in_range os ≡ true → length qs + length ps ≤ t.postings → length os ≤ t.orders → Built t houses (qs ++ ps) os (posted ps os past)
unfolding posted last_reached
posted_built t houses qs s [] os past e b n h k r x y =
    subst (λ l. Built t houses l os past) (sym (append-nil qs)) (subst (λ l. Built t houses qs l past) (take_all (length os) os (omega arith)) b)
posted_built t houses qs s (p ∷ ps) os past e b n h k r x y =
    let parts = all_parts houses s p ps h in
    let firsts = firsts_in houses (reached_with s p) ps (length os) parts.1 k in
    let few = next_few houses (reached_with s p) ps (length os) parts.1 k in
    let next = first_of ps (length os) in
    let begun = take p.first os in
    let more = suc p.house - seen_in past in
    let seen : seen_in (housed more past) ≡ suc p.house = omega (arith, seen_housed more past, parts.0.rising) in
    let one = houses_more t houses qs begun more past b (omega (arith, parts.0.rising, parts.0.below)) in
    let room : length (qs ++ (p ∷ [])) + length ps ≤ t.postings = omega (arith, length-append qs (p ∷ [])) in
    let at : p.first ≡ length begun = sym (length-take p.first os ∙ omega (arith, firsts.0, firsts.1)) in
    let count : here_with (last_reached unbegun qs) p ≤ 4096 = subst (λ l. here_with l p ≤ 4096) (sym e) parts.0.here in
    let two = posting_more t houses qs begun p (housed more past) one seen at count (omega arith) in
    let lines = between p.first next os in
    let long : length lines ≤ next - p.first = omega (arith, length-take (next - p.first) (drop p.first os)) in
    let sum : length begun + length lines ≤ length os =
    omega (arith, length-append begun lines, ap length (take_between p.first next os firsts.0), length-take next os) in
    let three = orders_more t houses (qs ++ (p ∷ [])) begun lines (Posts ∷ housed more past) two refl (omega (arith, few)) (omega arith) (range_between p.first next os r) in
    let four = subst (λ l. Built t houses (qs ++ (p ∷ [])) l (ordered lines (Posts ∷ housed more past))) (take_between p.first next os firsts.0) three in
    subst (λ l. Built t houses l os (posted ps os (ordered lines (Posts ∷ housed more past)))) (append_assoc qs (p ∷ []) ps)
    (posted_built t houses (qs ++ (p ∷ [])) (reached_with s p) ps os (ordered lines (Posts ∷ housed more past)) (last_push unbegun qs p ∙ ap (λ l. reached_with l p) e) four
    (omega (arith, seen_ordered lines (Posts ∷ housed more past), seen)) parts.1 k r room y)

-- the whole batch

start_built : (t : Sizes) (houses : ℕ) → 1 ≤ houses → houses ≤ 16 → Built t houses [] [] (Begins record { houses = houses; workers = 1; patience = 1 } ∷ [])
start_built t houses l h = record {
  lawful = (record { place = refl; within = ((l, h), (omega arith, omega arith), (omega arith, omega arith)); room = refl }, tt);
  head = refl;
  postings = refl;
  lines = refl;
  house = refl;
  posting = λ k. absurd (omega arith);
}

last_none : (s : Reached) → last_reached s [] ≡ s
unfolding last_reached
last_none s = refl

pub passes_given : (houses : ℕ) (ps : List Posting) (os : List OrderLine) → from_a_batch houses ps os ≡ true → Given houses ps os
passes_given houses ps os h =
    let a = and_parts (leb 1 houses) _ h in
    let b = and_parts (leb houses 16) _ a.1 in
    let parts = order_parts houses ps os b.1 in
    let t : Sizes = record { postings = length ps; orders = length os; runs = 0 } in
    let none : [] ≡ take (first_of ps (length os)) os = ap (λ n. take n os) (sym (begins_first houses ps (length os) parts.allowed parts.ended)) in
    let head = Begins record { houses = houses; workers = 1; patience = 1 } ∷ [] in
    let start = subst (λ l. Built t houses [] l head) none (start_built t houses (leb-true 1 houses a.0) (leb-true houses 16 b.0)) in
    let past = posted ps os head in
    let built = posted_built t houses [] unbegun ps os head (last_none unbegun) start (omega arith) parts.allowed parts.ended parts.ranged (omega arith) (omega arith) in
    let even : EvenAfter past = lawful_even t past built.lawful in
    let came : seen_in past ≤ houses = omega (arith, even.came, built.head) in
    let more = houses - seen_in past in
    let all = houses_more t houses ps os more past built (omega arith) in
    let seen : seen_in (housed more past) ≡ houses_in (housed more past) = omega (arith, seen_housed more past, all.head) in
    record {
      sizes = t;
      text = written (housed more past);
      past = housed more past;
      accepted = read_forth t (housed more past) all.lawful seen;
      plan = planned_houses (housed more past) ∙ all.head;
      postings = all.postings;
      lines = all.lines;
    }

pub given_decided : (b : Bool) (houses : ℕ) (ps : List Posting) (os : List OrderLine) → b ≡ from_a_batch houses ps os → Decides b (Given houses ps os)
given_decided b houses ps os e = (λ h. passes_given houses ps os (sym e ∙ h), λ g. e ∙ given_passes houses ps os g)
