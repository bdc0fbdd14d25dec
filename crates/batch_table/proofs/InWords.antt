-- The test of records says that they are in order.
use Rattle.std.proofs.Common.{◌≡◌, ℕ, zero, suc, ◌+◌, ◌-◌, ◌<◌, ◌≤◌, Bool, true, false, cond, eqb, leb, List, [], ◌∷◌, length, get_or, drop, Decides, sym, refl, ap, ◌∙◌, ⊎_elim, add-one, arith}
use Rattle.std.proofs.lemmas.Bool.{and_parts, and_from, leb-true, le-leb, eqb-true, eqb-false, eq-eqb, ne_eqb, cases_Bool, cond-true, cond-false}
use Rattle.std.proofs.lemmas.List.Elements.{All-from_get_or}
use Rattle.std.proofs.lemmas.List.Sums.{AllPass-from_list_all, list_all-from_AllPass}
use Rattle.batch.specs.declared.records.Posting.{Posting}
use Rattle.batch.specs.declared.records.OrderLine.{OrderLine}
use Rattle.batch.specs.declared.records.OrderLine.TheVariants.{Take}
use Rattle.batch.specs.Texts.{first_of}
use Rattle.batch_table.specs.declared.in_order.Reached.{Reached}
use Rattle.batch_table.specs.InOrder.{unbegun, ends_at, here_with, allows, reached_with, all_allowed, last_reached, records_in_order, from_a_batch}
use Rattle.batch_table.specs.OrderLines.{line_in_range}
use Rattle.batch_table.specs.Orderly.{posting_at, end_at, Orderly}
use Rattle.batch_table.specs.TableSource.{postings_of}
use Rattle.batch_table.proofs.GivenRecords.{allows_from}
use Rattle.batch_table.proofs.Orderly.{all_parts, order_parts, Rising, houses_rise, of_same, of_other, lines_in_lem, next_few, begins_first}
use Rattle.batch_table.proofs.TableLimits.{few_of, range_ordered, ordered_range}

-- what the test tells of record k

below_at : (houses : ℕ) (s : Reached) (ps : List Posting) (k : ℕ) → all_allowed houses s ps ≡ true → k < length ps → (posting_at ps k).house < houses
below_at houses s [] k h l = absurd (omega arith)
below_at houses s (p ∷ ps) zero h l = (all_parts houses s p ps h).0.below
below_at houses s (p ∷ ps) (suc k) h l = below_at houses (reached_with s p) ps k (all_parts houses s p ps h).1 (omega arith)

rising_from : (low : ℕ) (ps : List Posting) (k : ℕ) → Rising low ps → k < length ps → low ≤ (posting_at ps k).house
rising_from low [] k r l = absurd (omega arith)
rising_from low (p ∷ ps) zero r l = r.0
rising_from low (p ∷ ps) (suc k) r l = omega (arith, r.0, rising_from p.house ps k r.1 (omega arith))

rising_at : (low : ℕ) (ps : List Posting) (j k : ℕ) → Rising low ps → j ≤ k → k < length ps → (posting_at ps j).house ≤ (posting_at ps k).house
rising_at low [] j k r h l = absurd (omega arith)
rising_at low (p ∷ ps) zero zero r h l = omega arith
rising_at low (p ∷ ps) zero (suc k) r h l = rising_from p.house ps k r.1 (omega arith)
rising_at low (p ∷ ps) (suc j) zero r h l = absurd (omega arith)
rising_at low (p ∷ ps) (suc j) (suc k) r h l = rising_at p.house ps j k r.1 (omega arith) (omega arith)

lines_few : (houses : ℕ) (s : Reached) (ps : List Posting) (end k : ℕ) → all_allowed houses s ps ≡ true → ends_at (last_reached s ps) end ≡ true → k < length ps
    → first_of (drop (suc k) ps) end - (posting_at ps k).first ≤ 16
unfolding last_reached
lines_few houses s [] end k h e l = absurd (omega arith)
lines_few houses s (p ∷ ps) end zero h e l = next_few houses (reached_with s p) ps end (all_parts houses s p ps h).1 e
lines_few houses s (p ∷ ps) end (suc k) h e l = lines_few houses (reached_with s p) ps end k (all_parts houses s p ps h).1 e (omega arith)

passes_orderly : (houses : ℕ) (ps : List Posting) (os : List OrderLine) → from_a_batch houses ps os ≡ true → Orderly houses ps os
passes_orderly houses ps os h =
    let a = and_parts (leb 1 houses) _ h in
    let b = and_parts (leb houses 16) _ a.1 in
    let parts = order_parts houses ps os b.1 in
    record {
      some = leb-true 1 houses a.0;
      few = leb-true houses 16 b.0;
      below = λ k l. below_at houses unbegun ps k parts.allowed l;
      rising = λ j k e l. rising_at 0 ps j k (houses_rise houses unbegun ps parts.allowed) e l;
      counts = λ house. few_of houses house ps os b.1;
      first = begins_first houses ps (length os) parts.allowed parts.ended;
      lines = λ k l.
          (let within = lines_in_lem houses unbegun ps (length os) k parts.allowed parts.ended l in
          let few = lines_few houses unbegun ps (length os) k parts.allowed parts.ended l in
          let end : end_at ps os k ≡ first_of (drop (suc k) ps) (length os) = ap (λ n. first_of (drop n ps) (length os)) (add-one k) in
          (omega arith, omega arith));
      ranged = λ k l. range_ordered (get_or os k (Take 0)) (AllPass-from_list_all line_in_range os parts.ranged k (Take 0) l);
    }

-- the count of records of a house with those still to come

count_here : (s : Reached) (p : Posting) (ps : List Posting) (os : List OrderLine) → ((h : ℕ) → length (postings_of h (p ∷ ps) os) + cond (eqb s.house h) s.here 0 ≤ 4096)
    → (h : ℕ) → length (postings_of h ps os) + cond (eqb p.house h) (here_with s p) 0 ≤ 4096
count_here s p ps os c h =
    ⊎_elim
    (λ same.
    ⊎_elim
    (λ last. omega (
      arith,
      c h,
      ap length (of_same h p ps os same),
      cond-true (eqb p.house h) (here_with s p) 0 same,
      cond-true (eqb s.house h) s.here 0 last,
      cond-true (eqb p.house s.house) (s.here + 1) 1 (eq-eqb _ _ (eqb-true _ _ same ∙ sym (eqb-true _ _ last))),
    ))
    (λ other. omega (
      arith,
      c h,
      ap length (of_same h p ps os same),
      cond-true (eqb p.house h) (here_with s p) 0 same,
      cond-false (eqb s.house h) s.here 0 other,
      cond-false (eqb p.house s.house) (s.here + 1) 1 (ne_eqb _ _ (λ z. eqb-false _ _ other (sym z ∙ eqb-true _ _ same))),
    ))
    (cases_Bool (eqb s.house h)))
    (λ next. omega (arith, c h, ap length (of_other h p ps os next), cond-false (eqb p.house h) (here_with s p) 0 next))
    (cases_Bool (eqb p.house h))

-- records in order from here on pass
record Onward (houses : ℕ) (s : Reached) (ps : List Posting) (os : List OrderLine) : Type 0 where
  below : (k : ℕ) → k < length ps → (posting_at ps k).house < houses
  from : (k : ℕ) → k < length ps → s.house ≤ (posting_at ps k).house
  rising : (j k : ℕ) → j ≤ k → k < length ps → (posting_at ps j).house ≤ (posting_at ps k).house
  counts : (h : ℕ) → length (postings_of h ps os) + cond (eqb s.house h) s.here 0 ≤ 4096
  first : s.first ≤ first_of ps (length os)
  few : first_of ps (length os) - s.first ≤ s.most
  lines : (k : ℕ) → k < length ps → ((posting_at ps k).first ≤ first_of (drop (suc k) ps) (length os)) × (first_of (drop (suc k) ps) (length os) - (posting_at ps k).first ≤ 16)

onward_more : (houses : ℕ) (s : Reached) (p : Posting) (ps : List Posting) (os : List OrderLine) → Onward houses s (p ∷ ps) os → Onward houses (reached_with s p) ps os
onward_more houses s p ps os o = record {
  below = λ k l. o.below (suc k) (omega arith);
  from = λ k l. o.rising 0 (suc k) (omega arith) (omega arith);
  rising = λ j k e l. o.rising (suc j) (suc k) (omega arith) (omega arith);
  counts = count_here s p ps os o.counts;
  first = (o.lines 0 (omega arith)).0;
  few = (o.lines 0 (omega arith)).1;
  lines = λ k l. o.lines (suc k) (omega arith);
}

-- one of a house's 4,096 records is this one
here_few : (s : Reached) (p : Posting) (ps : List Posting) (os : List OrderLine) → ((h : ℕ) → length (postings_of h (p ∷ ps) os) + cond (eqb s.house h) s.here 0 ≤ 4096) → here_with s p ≤ 4096
here_few s p ps os c = omega (arith, count_here s p ps os c p.house, cond-true (eqb p.house p.house) (here_with s p) 0 (eq-eqb p.house p.house refl))

onward_passes : (houses : ℕ) (s : Reached) (ps : List Posting) (os : List OrderLine) → Onward houses s ps os → (all_allowed houses s ps ≡ true) × (ends_at (last_reached s ps) (length os) ≡ true)
unfolding all_allowed last_reached
onward_passes houses s [] os o = (refl, and_from (leb s.first (length os)) _ (le-leb _ _ o.first) (le-leb _ _ o.few))
onward_passes houses s (p ∷ ps) os o =
    let rest = onward_passes houses (reached_with s p) ps os (onward_more houses s p ps os o) in
    let here = allows_from houses s p o.first o.few (o.from 0 (omega arith)) (o.below 0 (omega arith)) (here_few s p ps os o.counts) in
    (and_from (allows houses s p) _ here rest.0, rest.1)

orderly_passes : (houses : ℕ) (ps : List Posting) (os : List OrderLine) → Orderly houses ps os → from_a_batch houses ps os ≡ true
orderly_passes houses ps os o =
    let onward : Onward houses unbegun ps os = record {
      below = o.below;
      from = λ k l. omega arith;
      rising = o.rising;
      counts = λ h. omega (arith, o.counts h, none_here h);
      first = omega arith;
      few = omega (arith, o.first);
      lines = λ k l.
          (let within = o.lines k l in
          let end : end_at ps os k ≡ first_of (drop (suc k) ps) (length os) = ap (λ n. first_of (drop n ps) (length os)) (add-one k) in
          (omega arith, omega arith));
    } in
    let passes = onward_passes houses unbegun ps os onward in
    let ranged = list_all-from_AllPass line_in_range os
    (All-from_get_or (λ x. line_in_range x ≡ true) os (Take 0) (λ k l. ordered_range (get_or os k (Take 0)) (o.ranged k l))) in
    and_from (leb 1 houses) _ (le-leb 1 houses o.some) (and_from (leb houses 16) _ (le-leb houses 16 o.few)
    (and_from (records_in_order houses ps (length os)) _ (and_from (all_allowed houses unbegun ps) _ passes.0 passes.1) ranged))
  where
    none_here : (h : ℕ) → ◌≡◌ {A = ℕ} (cond (eqb 0 h) 0 0) 0
    none_here h = same (eqb 0 h)
      where
        same : (b : Bool) → ◌≡◌ {A = ℕ} (cond b 0 0) 0
        same true = refl
        same false = refl

pub orderly_decided : (b : Bool) (houses : ℕ) (ps : List Posting) (os : List OrderLine) → b ≡ from_a_batch houses ps os → Decides b (Orderly houses ps os)
orderly_decided b houses ps os e = (λ h. passes_orderly houses ps os (sym e ∙ h), λ o. e ∙ orderly_passes houses ps os o)
