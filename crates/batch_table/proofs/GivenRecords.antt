-- The records that a batch gives are in order.
use Rattle.std.proofs.Common.{◌≡◌, ℕ, suc, ◌+◌, ◌-◌, ◌<◌, ◌≤◌, true, eqb, ltb, leb, List, [], ◌∷◌, ◌++◌, length, sym, refl, ap, ◌∙◌, subst, ⊎_elim, arith}
use Rattle.std.proofs.lemmas.List.{append-nil, length-append}
use Rattle.std.proofs.lemmas.Bool.{and_parts, and_from, eqb-true, eqb-false, le-leb, lt-ltb, cases_Bool, cond-true, cond-false}
use Rattle.std.proofs.lemmas.List.Folds.{list_all-append}
use Rattle.batch.specs.declared.records.Posting.{Posting}
use Rattle.batch.specs.declared.records.OrderLine.{OrderLine}
use Rattle.batch.specs.declared.items.Item.{Item}
use Rattle.batch.specs.declared.items.Item.TheVariants.{Begins, Opened, Kept, Posts, Orders, Runs}
use Rattle.batch.specs.declared.progress.Stage.TheVariants.{Drafting}
use Rattle.batch.specs.declared.progress.Sizes.{Sizes}
use Rattle.batch.specs.Limits.{Ordered, kind_of}
use Rattle.batch.specs.Plans.{planned}
use Rattle.batch.specs.Progress.{stage_after, houses_in, here_after, lines_after}
use Rattle.batch.specs.Reading.{Lawful}
use Rattle.batch.specs.Tables.{seen_in, postings_in, orders_in}
use Rattle.batch.proofs.Back.{text_written, any_length}
use Rattle.batch.proofs.Rolling.{planned_houses}
use Rattle.batch.proofs.TextParts.{Below}
use Rattle.batch.proofs.Told.{At, lawful_state, begin_at, posting_at_lem, order_at_lem}
use Rattle.batch_table.specs.declared.in_order.Reached.{Reached}
use Rattle.batch_table.specs.Given.{Given, FilledTablesPass}
use Rattle.batch_table.specs.InOrder.{unbegun, ends_at, here_with, allows, reached_with, all_allowed, last_reached, records_in_order, from_a_batch}
use Rattle.batch_table.specs.OrderLines.{line_in_range, lines_in_range}
use Rattle.batch_table.proofs.TableLimits.{ordered_range}

-- one record more at the end

pub last_push : (s : Reached) (ps : List Posting) (q : Posting) → last_reached s (ps ++ (q ∷ [])) ≡ reached_with (last_reached s ps) q
unfolding last_reached
last_push s [] q = refl
last_push s (p ∷ ps) q = last_push (reached_with s p) ps q

pub allowed_push : (houses : ℕ) (s : Reached) (ps : List Posting) (q : Posting) → all_allowed houses s ps ≡ true → allows houses (last_reached s ps) q ≡ true
    → all_allowed houses s (ps ++ (q ∷ [])) ≡ true
unfolding all_allowed last_reached
allowed_push houses s [] q h a = and_from (allows houses s q) true a refl
allowed_push houses s (p ∷ ps) q h a =
    let b = and_parts (allows houses s p) _ h in
    and_from (allows houses s p) _ b.0 (allowed_push houses (reached_with s p) ps q b.1 a)

pub range_push : (os : List OrderLine) (o : OrderLine) → lines_in_range os ≡ true → line_in_range o ≡ true → lines_in_range (os ++ (o ∷ [])) ≡ true
range_push os o h r = list_all-append line_in_range os (o ∷ []) ∙ and_from (lines_in_range os) (lines_in_range (o ∷ [])) h (and_from (line_in_range o) true r refl)

pub allows_from : (houses : ℕ) (s : Reached) (p : Posting) → s.first ≤ p.first → p.first - s.first ≤ s.most → s.house ≤ p.house → p.house < houses → here_with s p ≤ 4096
    → allows houses s p ≡ true
allows_from houses s p a b c d e =
    and_from (ends_at s p.first) _ (and_from (leb s.first p.first) _ (le-leb _ _ a) (le-leb _ _ b))
    (and_from (leb s.house p.house) _ (le-leb _ _ c) (and_from (ltb p.house houses) _ (lt-ltb _ _ d) (le-leb _ _ e)))

-- what the lines so far tell of the records: how many houses there are to be and have come, how many postings of the last
-- house, and how many order lines of the last posting
pub record Even (houses seen here lines : ℕ) (ps : List Posting) (os : List OrderLine) : Type 0 where
  pub some : 1 ≤ houses
  pub came : seen ≤ houses
  pub allowed : all_allowed houses unbegun ps ≡ true
  pub last : (last_reached unbegun ps).house ≤ seen - 1
  pub same : suc (last_reached unbegun ps).house ≡ seen → here ≡ (last_reached unbegun ps).here
  pub fresh : suc (last_reached unbegun ps).house < seen → here ≡ 0
  pub first : (last_reached unbegun ps).first + lines ≡ length os
  pub few : lines ≤ (last_reached unbegun ps).most
  pub ranged : lines_in_range os ≡ true

even_start : (houses : ℕ) → 1 ≤ houses → Even houses 0 0 0 [] []
unfolding all_allowed last_reached
even_start houses h = record {
  some = h;
  came = omega arith;
  allowed = refl;
  last = omega arith;
  same = λ e. refl;
  fresh = λ e. refl;
  first = refl;
  few = omega arith;
  ranged = refl;
}

even_same : (houses seen here lines : ℕ) (ps : List Posting) (os : List OrderLine) → Even houses seen here lines ps os → Even houses seen here lines (ps ++ []) (os ++ [])
even_same houses seen here lines ps os e =
    subst (λ l. Even houses seen here lines l (os ++ [])) (sym (append-nil ps)) (subst (Even houses seen here lines ps) (sym (append-nil os)) e)

none_below : (ps : List Posting) → Below 0 ps → ps ≡ []
none_below [] b = refl
none_below (p ∷ ps) b = absurd (omega (arith, b.0))

-- before the first house there is no record
unseen : (seen : ℕ) (ps : List Posting) → Below seen ps → seen ≡ 0 → last_reached unbegun ps ≡ unbegun
unfolding last_reached
unseen seen ps b e = ap (last_reached unbegun) (none_below ps (subst (λ n. Below n ps) e b))

even_house : (houses seen here lines : ℕ) (ps : List Posting) (os : List OrderLine) → Below seen ps → seen ≤ houses - 1 → Even houses seen here lines ps os
    → Even houses (seen + 1) 0 lines ps os
even_house houses seen here lines ps os b h e = record {
  some = e.some;
  came = omega (arith, e.some);
  allowed = e.allowed;
  last = omega (arith, e.last);
  same = λ k. (let none : seen ≡ 0 = omega (arith, e.last) in sym (ap (λ (s : Reached). s.here) (unseen seen ps b none)));
  fresh = λ k. refl;
  first = e.first;
  few = e.few;
  ranged = e.ranged;
}

-- the count of records of the last house
pub here_with_lem : (houses seen here lines : ℕ) (ps : List Posting) (os : List OrderLine) (q : Posting) → Even houses seen here lines ps os → 1 ≤ seen → q.house ≡ seen - 1
    → here_with (last_reached unbegun ps) q ≡ here + 1
here_with_lem houses seen here lines ps os q e h k =
    let l = last_reached unbegun ps in
    ⊎_elim
    (λ same. cond-true (eqb q.house l.house) (l.here + 1) 1 same ∙ ap (λ n. n + 1) (sym (e.same (omega (arith, eqb-true q.house l.house same)))))
    (λ other. cond-false (eqb q.house l.house) (l.here + 1) 1 other ∙ ap (λ n. n + 1) (sym (e.fresh (omega (arith, e.last, eqb-false q.house l.house other)))))
    (cases_Bool (eqb q.house l.house))

even_posting : (houses seen here lines : ℕ) (ps : List Posting) (os : List OrderLine) (q : Posting) → 1 ≤ seen → q.house ≡ seen - 1 → q.first ≡ length os → here < 4096
    → Even houses seen here lines ps os → Even houses seen (here + 1) 0 (ps ++ (q ∷ [])) os
even_posting houses seen here lines ps os q h k f r e =
    let count = here_with_lem houses seen here lines ps os q e h k in
    let last = last_push unbegun ps q in
    record {
      some = e.some;
      came = e.came;
      allowed = allowed_push houses unbegun ps q e.allowed
          (allows_from houses (last_reached unbegun ps) q (omega (arith, e.first)) (omega (arith, e.first, e.few)) (omega (arith, e.last)) (omega (arith, e.came)) (omega arith));
      last = omega (arith, ap (λ (s : Reached). s.house) last);
      same = λ j. sym (ap (λ (s : Reached). s.here) last ∙ count);
      fresh = λ j. absurd (omega (arith, ap (λ (s : Reached). s.house) last));
      first = omega (arith, ap (λ (s : Reached). s.first) last);
      few = omega arith;
      ranged = e.ranged;
    }

even_order : (houses seen here lines : ℕ) (ps : List Posting) (os : List OrderLine) (o : OrderLine) → (last_reached unbegun ps).most ≡ 16 → lines < 16 → Ordered o
    → Even houses seen here lines ps os → Even houses seen here (lines + 1) ps (os ++ (o ∷ []))
even_order houses seen here lines ps os o m l r e = record {
  some = e.some;
  came = e.came;
  allowed = e.allowed;
  last = e.last;
  same = e.same;
  fresh = e.fresh;
  first = omega (arith, e.first, length-append os (o ∷ []));
  few = omega arith;
  ranged = range_push os o e.ranged (ordered_range o r);
}

-- all lines

abbrev pub EvenAfter : List Item → Type 0
EvenAfter past = Even (houses_in past) (seen_in past) (here_after past) (lines_after past) (postings_in past) (orders_in past)

pub lawful_even : (t : Sizes) (past : List Item) → Lawful t past → EvenAfter past
lawful_even t [] w = even_start 1 (omega arith)
lawful_even t (Begins h ∷ past) w =
    let none : past ≡ [] = subst (λ x. At x past) (begin_at (stage_after past) w.0.place) (lawful_state t past w.1).at in
    subst (λ x. EvenAfter (Begins h ∷ x)) (sym none) (even_start h.houses w.0.within.0.0)
lawful_even t (Opened o ∷ past) w = even_same _ _ _ _ _ _ (lawful_even t past w.1)
lawful_even t (Kept k ∷ past) w =
    even_same _ _ _ _ _ _ (even_house (houses_in past) (seen_in past) (here_after past) (lines_after past) (postings_in past) (orders_in past) (lawful_state t past w.1).below w.0.within.0 (lawful_even t past w.1))
lawful_even t (Posts ∷ past) w =
    let here = posting_at_lem (stage_after past) past w.0.place (lawful_state t past w.1).at in
    let q : Posting = record { house = seen_in past - 1; first = length (orders_in past) } in
    subst (Even (houses_in past) (seen_in past) (here_after past + 1) 0 (postings_in past ++ (q ∷ []))) (sym (append-nil (orders_in past)))
    (even_posting (houses_in past) (seen_in past) (here_after past) (lines_after past) (postings_in past) (orders_in past) q here.0 refl refl w.0.within (lawful_even t past w.1))
lawful_even t (Orders o ∷ past) w =
    let here : At Drafting past = subst (λ x. At x past) (order_at_lem (kind_of o) (stage_after past) w.0.place) (lawful_state t past w.1).at in
    let most : (last_reached unbegun (postings_in past)).most ≡ 16 =
    ap (λ l. (last_reached unbegun l).most) here.1.2 ∙ ap (λ (s : Reached). s.most) (last_push unbegun here.1.0 here.1.1) in
    subst (λ l. Even (houses_in past) (seen_in past) (here_after past) (lines_after past + 1) l (orders_in past ++ (o ∷ []))) (sym (append-nil (postings_in past)))
    (even_order (houses_in past) (seen_in past) (here_after past) (lines_after past) (postings_in past) (orders_in past) o most w.0.within.0 w.0.within.1 (lawful_even t past w.1))
lawful_even t (Runs r ∷ past) w = even_same _ _ _ _ _ _ (lawful_even t past w.1)

-- the test of records that are even with their lines
even_passes : (houses seen here lines : ℕ) (ps : List Posting) (os : List OrderLine) → houses ≤ 16 → Even houses seen here lines ps os → from_a_batch houses ps os ≡ true
even_passes houses seen here lines ps os h e =
    let l = last_reached unbegun ps in
    let ended : ends_at l (length os) ≡ true =
    and_from (leb l.first (length os)) _ (le-leb l.first (length os) (omega (arith, e.first))) (le-leb (length os - l.first) l.most (omega (arith, e.first, e.few))) in
    and_from (leb 1 houses) _ (le-leb 1 houses e.some) (and_from (leb houses 16) _ (le-leb houses 16 h)
    (and_from (records_in_order houses ps (length os)) _ (and_from (all_allowed houses unbegun ps) _ e.allowed ended) e.ranged))

pub given_passes : (houses : ℕ) (ps : List Posting) (os : List OrderLine) → Given houses ps os → from_a_batch houses ps os ≡ true
given_passes houses ps os g =
    let lawful = (text_written g.sizes g.text g.past g.accepted).1 in
    let passes = even_passes _ _ _ _ _ _ (lawful_state g.sizes g.past lawful).houses (lawful_even g.sizes g.past lawful) in
    ap (λ n. from_a_batch n ps os) (sym g.plan ∙ planned_houses g.past)
    ∙ ap (λ l. from_a_batch (houses_in g.past) l os) (sym g.postings)
    ∙ ap (from_a_batch (houses_in g.past) (postings_in g.past)) (sym g.lines) ∙ passes

-- what an accepted batch fills passes
pub filled_pass : FilledTablesPass
filled_pass t text past h =
    given_passes (planned past).houses (postings_in past) (orders_in past) record {
      sizes = t;
      text = text;
      past = past;
      accepted = any_length t text past h;
      plan = refl;
      postings = refl;
      lines = refl;
    }
