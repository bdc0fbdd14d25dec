-- The test of an entry decides what an entry is.
use Rattle.std.proofs.Common.{◌≡◌, ℕ, zero, suc, ◌+◌, ◌<◌, ◌≤◌, Bool, true, false, not, ◌&&◌, ◌||◌, leb, List, [], ◌∷◌, length, Decides, sym, refl, ap, ◌∙◌, le_of_suc-le-suc, not-suc-le-zero, arith}
use Rattle.std.proofs.lemmas.Bool.{and_parts, and_from, leb-true, le-leb}
use Rattle.journal.specs.Entries.{Posted, posted, InRange, in_range, pair_at, Lawful, IsEntry, fits, rises, none, lawful, is_entry}
use Rattle.journal.specs.declared.entry.Entry.{Entry}
use Rattle.journal.specs.declared.entry.Pair.{Pair}

-- what the test of the pairs says of the pair at one place
pub record At (least : ℕ) (p : Pair) : Type 0 where
  pub from : least ≤ p.account
  pub to : p.account ≤ 63
  pub value : InRange p.value

fits_at : (least : ℕ) (p : Pair) → fits least p ≡ true → At least p
fits_at least p h =
    let a = and_parts (leb least p.account) (leb p.account 63 && in_range p.value) h in
    let b = and_parts (leb p.account 63) (in_range p.value) a.1 in
    record { from = leb-true _ _ a.0; to = leb-true _ _ b.0; value = leb-true _ _ b.1 }

at_fits : (least : ℕ) (p : Pair) → At least p → fits least p ≡ true
at_fits least p h =
    and_from (leb least p.account) _ (le-leb _ _ h.from)
    (and_from (leb p.account 63) (in_range p.value) (le-leb _ _ h.to) (le-leb _ _ h.value))

pub rises_at : (least : ℕ) (ps : List Pair) (j : ℕ) → rises least ps ≡ true → j < length ps → At least (pair_at ps j)
rises_at least [] j h l = absurd (not-suc-le-zero l)
rises_at least (p ∷ ps) zero h l = fits_at least p (and_parts (fits least p) _ h).0
rises_at least (p ∷ ps) (suc j) h l =
    let parts = and_parts (fits least p) (rises (p.account + 1) ps) h in
    let first = fits_at least p parts.0 in
    let later = rises_at (p.account + 1) ps j parts.1 (le_of_suc-le-suc l) in
    record { from = omega (arith, first.from, later.from); to = later.to; value = later.value }

-- a pair that comes later has a larger account
pub rises_rising : (least : ℕ) (ps : List Pair) (i j : ℕ) → rises least ps ≡ true → i < j → j < length ps → (pair_at ps i).account < (pair_at ps j).account
rises_rising least [] i j h lt l = absurd (not-suc-le-zero l)
rises_rising least (p ∷ ps) i zero h lt l = absurd (not-suc-le-zero lt)
rises_rising least (p ∷ ps) zero (suc j) h lt l =
    let parts = and_parts (fits least p) (rises (p.account + 1) ps) h in
    omega (arith, (rises_at (p.account + 1) ps j parts.1 (le_of_suc-le-suc l)).from)
rises_rising least (p ∷ ps) (suc i) (suc j) h lt l =
    let parts = and_parts (fits least p) (rises (p.account + 1) ps) h in
    rises_rising (p.account + 1) ps i j parts.1 (le_of_suc-le-suc lt) (le_of_suc-le-suc l)

-- pairs that rise and fit pass the test
pub rising_rises :
    (least : ℕ) (ps : List Pair) → ((j : ℕ) → j < length ps → At least (pair_at ps j))
    → ((i j : ℕ) → i < j → j < length ps → (pair_at ps i).account < (pair_at ps j).account) → rises least ps ≡ true
rising_rises least [] each rising = refl
rising_rises least (p ∷ ps) each rising =
    and_from (fits least p) (rises (p.account + 1) ps) (at_fits least p (each 0 (omega arith)))
    (rising_rises (p.account + 1) ps
    (λ j l. let at = each (suc j) (omega arith) in let above = rising 0 (suc j) (omega arith) (omega arith) in
    record { from = omega arith; to = at.to; value = at.value })
    (λ i j lt l. rising (suc i) (suc j) (omega arith) (omega arith)))

void_none : (v : Bool) (ps : List Pair) → (not v || none ps) ≡ true → v ≡ true → ps ≡ []
void_none true [] h e = refl
void_none true (p ∷ ps) h e = absurd (let z : ◌≡◌ {A = Bool} false true = h in let y : ◌≡◌ {A = ℕ} 0 1 = cc in omega arith)
void_none false ps h e = absurd (let y : ◌≡◌ {A = ℕ} 0 1 = cc in omega arith)

none_void : (v : Bool) (ps : List Pair) → (v ≡ true → ps ≡ []) → (not v || none ps) ≡ true
none_void true ps h = ap none (h refl)
none_void false ps h = refl

pub lawful_from : (e : Posted) → lawful e ≡ true → Lawful e
lawful_from e h =
    let ps = e.pairs in
    let a1 = and_parts (leb e.house 15) _ h in
    let a2 = and_parts (leb 1 e.number) _ a1.1 in
    let a3 = and_parts (leb e.number 4096) _ a2.1 in
    let a4 = and_parts (in_range e.hand) _ a3.1 in
    let a5 = and_parts (leb (length ps) 16) _ a4.1 in
    let a6 = and_parts (not e.void || none ps) (rises 0 ps) a5.1 in
    record {
      house = leb-true _ _ a1.0;
      first = leb-true _ _ a2.0;
      last = leb-true _ _ a3.0;
      hand = leb-true _ _ a4.0;
      few = leb-true _ _ a5.0;
      accounts = λ j l. (rises_at 0 ps j a6.1 l).to;
      rising = λ i j lt l. rises_rising 0 ps i j a6.1 lt l;
      values = λ j l. (rises_at 0 ps j a6.1 l).value;
      void = void_none e.void ps a6.0;
    }

pub lawful_to : (e : Posted) → Lawful e → lawful e ≡ true
lawful_to e h =
    let ps = e.pairs in
    and_from (leb e.house 15) _ (le-leb _ _ h.house)
    (and_from (leb 1 e.number) _ (le-leb _ _ h.first)
    (and_from (leb e.number 4096) _ (le-leb _ _ h.last)
    (and_from (in_range e.hand) _ (le-leb _ _ h.hand)
    (and_from (leb (length ps) 16) _ (le-leb _ _ h.few)
    (and_from (not e.void || none ps) (rises 0 ps) (none_void e.void ps h.void)
    (rising_rises 0 ps (λ j l. record { from = omega arith; to = h.accounts j l; value = h.values j l }) h.rising))))))

pub entry_decided : (e : Entry) (r : Bool) → r ≡ is_entry e → Decides r (IsEntry e)
entry_decided e r is = (
  λ t. let parts = and_parts (leb e.count 16) (lawful (posted e)) (sym is ∙ t) in
      record { counted = leb-true _ _ parts.0; lawful = lawful_from (posted e) parts.1 },
  λ h. is ∙ and_from (leb e.count 16) (lawful (posted e)) (le-leb _ _ h.counted) (lawful_to (posted e) h.lawful),
)
