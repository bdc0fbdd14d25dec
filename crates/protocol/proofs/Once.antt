-- Every posting stands in the journal once: a house's entries are counted by their numbers.
use Rattle.std.proofs.Common.{◌≡◌, ℕ, zero, suc, ◌<◌, ◌≤◌, ◌⊎◌, List, length, ℤ, sym, ap, ◌∙◌, subst, inl, inr, add-one, arith}
use Rattle.std.proofs.lemmas.Bool.{cases_eq, cases_lt, cases_order}
use Rattle.std.proofs.lemmas.List.{length_push}
use Rattle.journal.specs.Entries.{Posted}
use Rattle.posting.specs.Alone.{posted_for}
use Rattle.posting.specs.Sources.{Meaning, Limits}
use Rattle.protocol.specs.Counting.{sum_below}
use Rattle.protocol.specs.History.{entry_at, Stands, entries_of}
use Rattle.protocol.specs.State.{State}
use Rattle.protocol.specs.Opening.{all_postings}
use Rattle.protocol.specs.Promises.{AllWorkedAlone, Numbered, Whole, AllClosed, FilingStands}
use Rattle.protocol.proofs.Counts.{sum_le, sum_zero, sum_more}
use Rattle.protocol.proofs.Grown.{entries_none, entries_next, entries_here, entries_else, entries_up}
use Rattle.protocol.proofs.Sound.{Sound, filing, filed_lawful}

-- the place of the house's n-th entry
find : (es : List Posted) (h n : ℕ) → 1 ≤ n → (k : ℕ) → n ≤ entries_of es h k → (j : ℕ) × (j < k) × ((entry_at es j).house ≡ h) × (suc (entries_of es h j) ≡ n)
find es h n l zero b = absurd (omega (arith, entries_none es h))
find es h n l (suc k) b = go (λ q. find es h n l k q) (cases_lt (entries_of es h k) n) (cases_eq (entry_at es k).house h)
  where
    go : (n ≤ entries_of es h k → (j : ℕ) × (j < k) × ((entry_at es j).house ≡ h) × (suc (entries_of es h j) ≡ n))
        → (entries_of es h k < n) ⊎ (n ≤ entries_of es h k) → ((entry_at es k).house ≡ h) ⊎ ((entry_at es k).house ≡ h → ⊥)
        → (j : ℕ) × (j < suc k) × ((entry_at es j).house ≡ h) × (suc (entries_of es h j) ≡ n)
    go ih (inl q) (inl e) = (k, omega arith, e, omega (arith, entries_here es h k e))
    go ih (inl q) (inr e) = absurd (omega (arith, entries_else es h k e))
    go ih (inr q) e = let f = ih q in (f.0, omega arith, f.2, f.3)

number_at : (es : List Posted) → Numbered es → (k h : ℕ) → k < length es → (entry_at es k).house ≡ h → (entry_at es k).number ≡ suc (entries_of es h k)
number_at es n k h l e = n k l ∙ add-one _ ∙ ap (λ (x : ℕ). suc (entries_of es x k)) e

-- as many entries as n: then posting n stands there
pub stands_somewhere : (es : List Posted) → Numbered es → (h n : ℕ) → 1 ≤ n → n ≤ entries_of es h (length es) → (k : ℕ) × Stands es k h n
stands_somewhere es nu h n l b =
    let f = find es h n l (length es) b in
    (f.0, (f.1, f.2, number_at es nu f.0 h f.1 f.2 ∙ f.3))

-- and fewer: then it does not
pub stands_nowhere : (es : List Posted) → Numbered es → (h n : ℕ) → entries_of es h (length es) < n → (k : ℕ) → Stands es k h n → ⊥
stands_nowhere es nu h n l k x =
    omega (arith, x.2, number_at es nu k h x.0 x.1, entries_here es h k x.1, entries_up es h (suc k) (length es) x.0)

not_before : (es : List Posted) → Numbered es → (j k h n : ℕ) → Stands es j h n → Stands es k h n → j < k → ⊥
not_before es nu j k h n a b l =
    omega (arith, a.2, b.2, number_at es nu j h a.0 a.1, number_at es nu k h b.0 b.1, entries_here es h j a.1, entries_up es h (suc j) k l)

-- a house has no more entries than postings
few : (m : Meaning) (openings : List ℤ) (es : List Posted) → Numbered es → AllWorkedAlone m openings es → (h k : ℕ) → k ≤ length es → entries_of es h k ≤ m.postings h
few m openings es nu al h zero l = omega (arith, entries_none es h)
few m openings es nu al h (suc k) l = go (few m openings es nu al h k (omega arith)) (cases_eq (entry_at es k).house h)
  where
    go : entries_of es h k ≤ m.postings h → ((entry_at es k).house ≡ h) ⊎ ((entry_at es k).house ≡ h → ⊥) → entries_of es h (suc k) ≤ m.postings h
    go ih (inl e) =
        let b : (entry_at es k).number ≤ m.postings h = subst (λ (x : ℕ). (entry_at es k).number ≤ m.postings x) e (al k l).last in
        omega (arith, entries_here es h k e, number_at es nu k h l e)
    go ih (inr e) = omega (arith, entries_else es h k e)

-- the entries are all the houses'
all_entries : (m : Meaning) (openings : List ℤ) (es : List Posted) → AllWorkedAlone m openings es → (k : ℕ) → k ≤ length es → sum_below (λ h. entries_of es h k) m.houses ≡ k
all_entries m openings es al zero l = sum_zero (λ h. entries_of es h 0) m.houses (entries_none es)
all_entries m openings es al (suc k) l =
    sum_more (entry_at es k).house (λ h. entries_of es h k) (λ h. entries_of es h (suc k)) m.houses (al k l).house (λ h. entries_next es h k)
    ∙ ap suc (all_entries m openings es al k (omega arith))

-- no more entries than postings
pub fits : (m : Meaning) (s : State) → Sound m s → length s.journal ≤ all_postings m
fits m s i = subst (λ (n : ℕ). n ≤ all_postings m) (all_entries m s.openings s.journal i.alone (length s.journal) (omega arith))
    (sum_le (λ h. entries_of s.journal h (length s.journal)) m.postings m.houses
    (λ h l. few m s.openings s.journal i.numbered i.alone h (length s.journal) (omega arith)))

-- a draft that is filed is lawful, and there is room for it: the journal with it has no more entries than postings
pub filing_stands : (m : Meaning) → Limits m → (s : State) → Sound m s → (w : ℕ) → FilingStands s w
filing_stands m lim s i w r d e full = (
  filed_lawful m lim s i w r d e full,
  omega (arith, length_push s.journal (posted_for d r.house r.number), fits m _ (filing m lim s i w r d e full), i.enough),
)

pub whole : (m : Meaning) (s : State) → Sound m s → AllClosed m s → Whole m s.journal
whole m s i closed = record {
  every = λ h n known l b. stands_somewhere es i.numbered h n l (enough h n known b);
  once = λ j k h n a b. once (cases_order j k) h n a b;
  nothing_else = λ k l. ((i.alone k l).house, (i.alone k l).first, (i.alone k l).last);
}
  where
    es : List Posted
    es = s.journal

    -- a house that is not open has passed its count of postings
    enough : (h n : ℕ) → h < m.houses → n ≤ m.postings h → n ≤ entries_of es h (length es)
    enough h n known b = go (cases_lt (m.postings h) (s.house h).number)
      where
        go : (m.postings h < (s.house h).number) ⊎ ((s.house h).number ≤ m.postings h) → n ≤ entries_of es h (length es)
        go (inl q) = omega (arith, (i.houses h).counted, entries_up es h (s.house h).start (length es) (i.houses h).within)
        go (inr q) = absurd (closed h (record { known = subst (λ (x : ℕ). h < x) (sym i.same_houses) known; left = q }))

    once : {j k : ℕ} → (j ≡ k) ⊎ ((j < k) ⊎ (k < j)) → (h n : ℕ) → Stands es j h n → Stands es k h n → j ≡ k
    once (inl e) h n a b = e
    once {j} {k} (inr (inl l)) h n a b = absurd (not_before es i.numbered j k h n a b l)
    once {j} {k} (inr (inr l)) h n a b = absurd (not_before es i.numbered k j h n b a l)
