-- What the test of records tells of each of them.
use Rattle.std.proofs.Common.{◌≡◌, ℕ, zero, suc, ◌+◌, ◌-◌, ◌<◌, ◌≤◌, Bool, true, false, cond, ◌&&◌, eqb, ltb, leb, List, [], ◌∷◌, length, get_or, drop, sym, refl, ap, ◌∙◌, ⊎_elim, arith}
use Rattle.std.proofs.lemmas.List.{at_drop_more, at_drop_all}
use Rattle.std.proofs.lemmas.Bool.{and_parts, leb-true, ltb-true, eqb-true, eqb-false, eq-eqb, ne_eqb, lt-ltb, le-ltb, ltb-false, cases_Bool, cond-true, cond-false}
use Rattle.std.proofs.lemmas.List.Sums.{sum_by-cons}
use Rattle.batch.specs.declared.records.Posting.{Posting}
use Rattle.batch.specs.declared.records.OrderLine.{OrderLine}
use Rattle.batch.specs.Texts.{first_of, between}
use Rattle.batch_table.specs.declared.in_order.Reached.{Reached}
use Rattle.batch_table.specs.InOrder.{unbegun, ends_at, here_with, allows, reached_with, all_allowed, last_reached, records_in_order, in_order}
use Rattle.batch_table.specs.OrderLines.{lines_in_range}
use Rattle.batch_table.specs.Orderly.{posting_at}
use Rattle.batch_table.specs.TableSource.{postings_of, before}

-- a record that may come next
pub record Next (houses : ℕ) (s : Reached) (p : Posting) : Type 0 where
  pub from : s.first ≤ p.first
  pub few : p.first - s.first ≤ s.most
  pub rising : s.house ≤ p.house
  pub below : p.house < houses
  pub here : here_with s p ≤ 4096

pub next_parts : (houses : ℕ) (s : Reached) (p : Posting) → allows houses s p ≡ true → Next houses s p
next_parts houses s p h =
    let a = and_parts (ends_at s p.first) _ h in
    let b = and_parts (leb s.first p.first) _ a.0 in
    let c = and_parts (leb s.house p.house) _ a.1 in
    let d = and_parts (ltb p.house houses) _ c.1 in
    record { from = leb-true _ _ b.0; few = leb-true _ _ b.1; rising = leb-true _ _ c.0; below = ltb-true _ _ d.0; here = leb-true _ _ d.1 }

pub all_parts : (houses : ℕ) (s : Reached) (p : Posting) (ps : List Posting) → all_allowed houses s (p ∷ ps) ≡ true
    → Next houses s p × (all_allowed houses (reached_with s p) ps ≡ true)
unfolding all_allowed
all_parts houses s p ps h = let a = and_parts (allows houses s p) _ h in (next_parts houses s p a.0, a.1)

-- the parts of the whole test
pub record Parts (houses : ℕ) (ps : List Posting) (os : List OrderLine) : Type 0 where
  pub allowed : all_allowed houses unbegun ps ≡ true
  pub ended : ends_at (last_reached unbegun ps) (length os) ≡ true
  pub ranged : lines_in_range os ≡ true

pub order_parts : (houses : ℕ) (ps : List Posting) (os : List OrderLine) → in_order houses ps os ≡ true → Parts houses ps os
order_parts houses ps os h =
    let a = and_parts (records_in_order houses ps (length os)) _ h in
    let b = and_parts (all_allowed houses unbegun ps) _ a.0 in
    record { allowed = b.0; ended = b.1; ranged = a.1 }

-- houses never fall

abbrev pub Rising : ℕ → List Posting → Type 0
Rising low [] = Unit {0}
Rising low (p ∷ ps) = (low ≤ p.house) × Rising p.house ps

pub houses_rise : (houses : ℕ) (s : Reached) (ps : List Posting) → all_allowed houses s ps ≡ true → Rising s.house ps
houses_rise houses s [] h = tt
houses_rise houses s (p ∷ ps) h = let a = all_parts houses s p ps h in (a.0.rising, houses_rise houses (reached_with s p) ps a.1)

-- the postings of a house, one record more in front

pub of_same : (h : ℕ) (p : Posting) (ps : List Posting) (os : List OrderLine) → eqb p.house h ≡ true
    → postings_of h (p ∷ ps) os ≡ between p.first (first_of ps (length os)) os ∷ postings_of h ps os
unfolding postings_of
of_same h p ps os e = cond-true (eqb p.house h) _ _ e

pub of_other : (h : ℕ) (p : Posting) (ps : List Posting) (os : List OrderLine) → eqb p.house h ≡ false → postings_of h (p ∷ ps) os ≡ postings_of h ps os
unfolding postings_of
of_other h p ps os e = cond-false (eqb p.house h) _ _ e

pub of_none : (h : ℕ) (os : List OrderLine) → postings_of h [] os ≡ []
unfolding postings_of
of_none h os = refl

before_more : (h : ℕ) (p : Posting) (ps : List Posting) → before h (p ∷ ps) ≡ cond (ltb p.house h) 1 0 + before h ps
before_more h p ps = sum_by-cons _ p ps

pub before_lower : (h : ℕ) (p : Posting) (ps : List Posting) → p.house < h → before h (p ∷ ps) ≡ suc (before h ps)
before_lower h p ps l = omega (arith, before_more h p ps, cond-true {A = ℕ} (ltb p.house h) 1 0 (lt-ltb p.house h l))

pub before_other : (h : ℕ) (p : Posting) (ps : List Posting) → h ≤ p.house → before h (p ∷ ps) ≡ before h ps
before_other h p ps l = omega (arith, before_more h p ps, cond-false {A = ℕ} (ltb p.house h) 1 0 (le-ltb p.house h l))

-- among houses that do not fall from here, none is lower

pub none_lower : (h low : ℕ) (ps : List Posting) (os : List OrderLine) → h < low → Rising low ps → postings_of h ps os ≡ []
none_lower h low [] os l r = of_none h os
none_lower h low (p ∷ ps) os l r = of_other h p ps os (ne_eqb p.house h (λ e. omega (arith, r.0))) ∙ none_lower h p.house ps os (omega (arith, r.0)) r.1

before_none : (h low : ℕ) (ps : List Posting) → h ≤ low → Rising low ps → before h ps ≡ 0
before_none h low [] l r = refl
before_none h low (p ∷ ps) l r = before_other h p ps (omega (arith, r.0)) ∙ before_none h p.house ps (omega (arith, r.0)) r.1

-- the place of a house's posting: after those of lower houses and its own earlier ones
pub record Placed (h k n : ℕ) (ps : List Posting) (os : List OrderLine) : Type 0 where
  pub within : n < length ps
  pub lines : get_or (postings_of h ps os) k [] ≡ between (posting_at ps n).first (first_of (drop (suc n) ps) (length os)) os

later : (h j k m n : ℕ) (p : Posting) (ps : List Posting) (os : List OrderLine) → get_or (postings_of h (p ∷ ps) os) j [] ≡ get_or (postings_of h ps os) k [] → suc m ≡ n
    → Placed h k m ps os → Placed h j n (p ∷ ps) os
later h j k m n p ps os same e at = record {
  within = omega (arith, at.within);
  lines = same ∙ at.lines ∙ ap (λ x. between (posting_at (p ∷ ps) x).first (first_of (drop (suc x) (p ∷ ps)) (length os)) os) e;
}

first_here : (h n : ℕ) (p : Posting) (ps : List Posting) (os : List OrderLine) → eqb p.house h ≡ true → 0 ≡ n → Placed h 0 n (p ∷ ps) os
first_here h n p ps os same e = record {
  within = omega arith;
  lines = ap (λ l. get_or l 0 []) (of_same h p ps os same) ∙ ap (λ x. between (posting_at (p ∷ ps) x).first (first_of (drop (suc x) (p ∷ ps)) (length os)) os) e;
}

pub placed : (h low k n : ℕ) (ps : List Posting) (os : List OrderLine) → Rising low ps → k < length (postings_of h ps os) → n ≡ before h ps + k → Placed h k n ps os
placed h low k n [] os r l e = absurd (omega (arith, ap length (of_none h os)))
placed h low zero n (p ∷ ps) os r l e =
    ⊎_elim
    (λ same. first_here h n p ps os same (omega (arith, eqb-true p.house h same, before_other h p ps (omega (arith, eqb-true p.house h same)), before_none h p.house ps (omega (arith, eqb-true p.house h same)) r.1)))
    (λ other.
    ⊎_elim
    (λ lower. later h 0 0 (n - 1) n p ps os (ap (λ l. get_or l 0 []) (of_other h p ps os other)) (omega (arith, before_lower h p ps (ltb-true p.house h lower)))
    (placed h p.house 0 (n - 1) ps os r.1 (omega (arith, ap length (of_other h p ps os other))) (omega (arith, before_lower h p ps (ltb-true p.house h lower)))))
    (λ upper. absurd (omega (arith, ap length (of_other h p ps os other), ap length (none_lower h p.house ps os (above upper other) r.1))))
    (cases_Bool (ltb p.house h)))
    (cases_Bool (eqb p.house h))
  where
    above : ltb p.house h ≡ false → eqb p.house h ≡ false → h < p.house
    above a b = omega (arith, ltb-false p.house h a, eqb-false p.house h b)
placed h low (suc k) n (p ∷ ps) os r l e =
    ⊎_elim
    (λ same. later h (suc k) k (n - 1) n p ps os (ap (λ l. get_or l (suc k) []) (of_same h p ps os same)) (omega (arith, before_other h p ps (omega (arith, eqb-true p.house h same))))
    (placed h p.house k (n - 1) ps os r.1 (omega (arith, ap length (of_same h p ps os same))) (omega (arith, before_other h p ps (omega (arith, eqb-true p.house h same))))))
    (λ other.
    ⊎_elim
    (λ lower. later h (suc k) (suc k) (n - 1) n p ps os (ap (λ l. get_or l (suc k) []) (of_other h p ps os other)) (omega (arith, before_lower h p ps (ltb-true p.house h lower)))
    (placed h p.house (suc k) (n - 1) ps os r.1 (omega (arith, ap length (of_other h p ps os other))) (omega (arith, before_lower h p ps (ltb-true p.house h lower)))))
    (λ upper. absurd (omega (arith, ap length (of_other h p ps os other), ap length (none_lower h p.house ps os (above upper other) r.1))))
    (cases_Bool (ltb p.house h)))
    (cases_Bool (eqb p.house h))
  where
    above : ltb p.house h ≡ false → eqb p.house h ≡ false → h < p.house
    above a b = omega (arith, ltb-false p.house h a, eqb-false p.house h b)

-- the order lines of a record end where those of the next begin, and within the table

pub firsts_in : (houses : ℕ) (s : Reached) (ps : List Posting) (end : ℕ) → all_allowed houses s ps ≡ true → ends_at (last_reached s ps) end ≡ true
    → (s.first ≤ first_of ps end) × (first_of ps end ≤ end)
unfolding last_reached
firsts_in houses s [] end h e = (leb-true _ _ (and_parts (leb s.first end) _ e).0, omega arith)
firsts_in houses s (p ∷ ps) end h e =
    let a = all_parts houses s p ps h in
    let b = firsts_in houses (reached_with s p) ps end a.1 e in
    (a.0.from, omega arith)

pub lines_in_lem : (houses : ℕ) (s : Reached) (ps : List Posting) (end k : ℕ) → all_allowed houses s ps ≡ true → ends_at (last_reached s ps) end ≡ true → k < length ps
    → ((posting_at ps k).first ≤ first_of (drop (suc k) ps) end) × (first_of (drop (suc k) ps) end ≤ end)
unfolding last_reached
lines_in_lem houses s [] end k h e l = absurd (omega arith)
lines_in_lem houses s (p ∷ ps) end zero h e l = firsts_in houses (reached_with s p) ps end (all_parts houses s p ps h).1 e
lines_in_lem houses s (p ∷ ps) end (suc k) h e l = lines_in_lem houses (reached_with s p) ps end k (all_parts houses s p ps h).1 e (omega arith)

-- a record's order lines are at most 16
pub next_few : (houses : ℕ) (s : Reached) (ps : List Posting) (end : ℕ) → all_allowed houses s ps ≡ true → ends_at (last_reached s ps) end ≡ true → first_of ps end - s.first ≤ s.most
unfolding last_reached
next_few houses s [] end h e = leb-true (end - s.first) s.most (and_parts (leb s.first end) _ e).1
next_few houses s (p ∷ ps) end h e = (all_parts houses s p ps h).0.few

-- the first record begins with the first order line
pub begins_first : (houses : ℕ) (ps : List Posting) (end : ℕ) → all_allowed houses unbegun ps ≡ true → ends_at (last_reached unbegun ps) end ≡ true → first_of ps end ≡ 0
begins_first houses ps end h e = omega (arith, next_few houses unbegun ps end h e)

-- how many postings a house has

one_more : (a h : ℕ) → cond (ltb a (suc h)) 1 0 ≡ cond (ltb a h) 1 0 + cond (eqb a h) 1 0
one_more a h =
    ⊎_elim
    (λ same. omega (arith, cond-true {A = ℕ} (eqb a h) 1 0 same, cond-false {A = ℕ} (ltb a h) 1 0 (le-ltb a h (omega (arith, eqb-true a h same))), cond-true {A = ℕ} (ltb a (suc h)) 1 0 (lt-ltb a (suc h) (omega (arith, eqb-true a h same)))))
    (λ other.
    ⊎_elim
    (λ lower. omega (arith, cond-false {A = ℕ} (eqb a h) 1 0 other, cond-true {A = ℕ} (ltb a h) 1 0 lower, cond-true {A = ℕ} (ltb a (suc h)) 1 0 (lt-ltb a (suc h) (omega (arith, ltb-true a h lower)))))
    (λ upper. omega (arith, cond-false {A = ℕ} (eqb a h) 1 0 other, cond-false {A = ℕ} (ltb a h) 1 0 upper, cond-false {A = ℕ} (ltb a (suc h)) 1 0 (le-ltb a (suc h) (omega (arith, ltb-false a h upper, eqb-false a h other)))))
    (cases_Bool (ltb a h)))
    (cases_Bool (eqb a h))

length_one : {X : Type 0} (b : Bool) (x : X) (xs : List X) → length (cond b (x ∷ xs) xs) ≡ cond b 1 0 + length xs
length_one true x xs = omega arith
length_one false x xs = omega arith

pub counted : (h : ℕ) (ps : List Posting) (os : List OrderLine) → before (suc h) ps ≡ before h ps + length (postings_of h ps os)
unfolding postings_of
counted h [] os = refl
counted h (p ∷ ps) os =
    omega (arith, counted h ps os, before_more h p ps, before_more (suc h) p ps, one_more p.house h, length_one (eqb p.house h) (between p.first (first_of ps (length os)) os) (postings_of h ps os))

-- a house beyond the houses has none
pub absent : (houses h : ℕ) (s : Reached) (ps : List Posting) (os : List OrderLine) → houses ≤ h → all_allowed houses s ps ≡ true → postings_of h ps os ≡ []
absent houses h s [] os l a = of_none h os
absent houses h s (p ∷ ps) os l a =
    let b = all_parts houses s p ps a in
    of_other h p ps os (ne_eqb p.house h (λ e. omega (arith, b.0.below))) ∙ absent houses h (reached_with s p) ps os l b.1

-- and any house at most 4,096
pub few_postings : (houses h : ℕ) (s : Reached) (ps : List Posting) (os : List OrderLine) → s.here ≤ 4096 → all_allowed houses s ps ≡ true
    → length (postings_of h ps os) + cond (eqb s.house h) s.here 0 ≤ 4096
few_postings houses h s [] os l a =
    ⊎_elim
    (λ e. omega (arith, ap length (of_none h os), cond-true (eqb s.house h) s.here 0 e))
    (λ e. omega (arith, ap length (of_none h os), cond-false (eqb s.house h) s.here 0 e))
    (cases_Bool (eqb s.house h))
few_postings houses h s (p ∷ ps) os l a =
    let b = all_parts houses s p ps a in
    let more = few_postings houses h (reached_with s p) ps os b.0.here b.1 in
    ⊎_elim
    (λ same.
    ⊎_elim
    (λ last. omega (
      arith,
      more,
      ap length (of_same h p ps os same),
      cond-true (eqb p.house h) (here_with s p) 0 same,
      cond-true (eqb s.house h) s.here 0 last,
      cond-true (eqb p.house s.house) (s.here + 1) 1 (eq-eqb _ _ (eqb-true _ _ same ∙ sym (eqb-true _ _ last))),
    ))
    (λ other. omega (
      arith,
      more,
      ap length (of_same h p ps os same),
      cond-true (eqb p.house h) (here_with s p) 0 same,
      cond-false (eqb s.house h) s.here 0 other,
      cond-false (eqb p.house s.house) (s.here + 1) 1 (ne_eqb _ _ (λ z. eqb-false _ _ other (sym z ∙ eqb-true _ _ same))),
    ))
    (cases_Bool (eqb s.house h)))
    (λ next.
    ⊎_elim
    (λ last. omega (
      arith,
      ap length (of_other h p ps os next),
      cond-true (eqb s.house h) s.here 0 last,
      ap length (none_lower h p.house ps os (above last next b.0.rising) (houses_rise houses (reached_with s p) ps b.1)),
    ))
    (λ other. omega (arith, more, ap length (of_other h p ps os next), cond-false (eqb p.house h) (here_with s p) 0 next, cond-false (eqb s.house h) s.here 0 other))
    (cases_Bool (eqb s.house h)))
    (cases_Bool (eqb p.house h))
  where
    above : eqb s.house h ≡ true → eqb p.house h ≡ false → s.house ≤ p.house → h < p.house
    above a b c = omega (arith, eqb-true s.house h a, eqb-false p.house h b)

-- one record after the other

abbrev pub order_from : ℕ → ℕ → Reached → List Posting → Bool
order_from houses end s ps = all_allowed houses s ps && ends_at (last_reached s ps) end

and_regroup : (a b c : Bool) → ((a && b) && c) ≡ (a && (b && c))
and_regroup true b c = refl
and_regroup false b c = refl

order_more : (houses end : ℕ) (s : Reached) (p : Posting) (ps : List Posting) → order_from houses end s (p ∷ ps) ≡ (allows houses s p && order_from houses end (reached_with s p) ps)
unfolding all_allowed last_reached
order_more houses end s p ps = and_regroup (allows houses s p) _ _

pub order_step : (houses end : ℕ) (s : Reached) (ps : List Posting) (i : ℕ) (b : Bool) → i < length ps → b ≡ allows houses s (posting_at ps i)
    → (b && order_from houses end (reached_with s (posting_at ps i)) (drop (i + 1) ps)) ≡ order_from houses end s (drop i ps)
order_step houses end s ps i b h e =
    ap (λ (x : Bool). x && order_from houses end (reached_with s (posting_at ps i)) (drop (i + 1) ps)) e
    ∙ sym (at_drop_more (order_from houses end s) ps i _ h ∙ order_more houses end s (posting_at ps i) (drop (i + 1) ps))

pub order_all : (houses end : ℕ) (s : Reached) (ps : List Posting) (i : ℕ) → length ps ≤ i → ends_at s end ≡ order_from houses end s (drop i ps)
unfolding all_allowed last_reached
order_all houses end s ps i h = sym (at_drop_all (order_from houses end s) ps i h)
