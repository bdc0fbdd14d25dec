-- What the opening establishes and every turn keeps.
use Rattle.std.proofs.Common.{◌≡◌, ℕ, zero, suc, ◌+◌, ◌-◌, ◌<◌, ◌≤◌, Bool, true, false, cond, ◌||◌, eqb, ltb, ◌⊎◌, List, [], ◌∷◌, ◌++◌, length, get_or, ℤ, Some, None, Option, sym, refl, ap, ◌∙◌, subst, inl, inr, add-one, arith}
use Rattle.std.proofs.lemmas.Bool.{cases_eq, or_parts, lt-ltb, eq-eqb, ne_eqb}
use Rattle.std.proofs.lemmas.List.{length_push}
use Rattle.batch.specs.Plans.{Terms}
use Rattle.journal.specs.Entries.{Posted, Lawful, InRange}
use Rattle.posting.specs.Alone.{Outcome, alone, balances_after, posted_for}
use Rattle.posting.specs.Sources.{Meaning, Limits}
use Rattle.posting.proofs.Locality.{always_local}
use Rattle.posting.proofs.Entered.{always_enterable}
use Rattle.protocol.specs.Counting.{one, sum_below, put}
use Rattle.protocol.specs.History.{entry_at, Stands, entries_of, last_hand, touches}
use Rattle.protocol.specs.State.{House, Round, Phase, resting, looking, drafted, settling, Worker, State, with_worker, with_house, with_journal, with_dates, in_phase, to_phase}
use Rattle.protocol.specs.Serving.{Open, Keeps}
use Rattle.protocol.specs.Rules.{Answer, new_round, onward, taken_up, draft_of, filed_now, failing, calling, moved_on, has_settled, Dropped, had_none, was_this, was_other, Step, helps, returns, chooses, idles, passes, finds, drafts, overtakes, meets, files, drops, fails, calls, settles, moves_on}
use Rattle.protocol.specs.Opening.{opened, all_postings}
use Rattle.protocol.specs.Promises.{AllWorkedAlone, Numbered}
use Rattle.protocol.proofs.Counts.{one_le, sum_le, sum_more, put_other, put_all}
use Rattle.protocol.proofs.Grown.{Grows, grows_not, grows_push, entry_push, entries_none, entries_here, entries_else, entries_up, entries_same, hand_here, hand_else, hand_same, balances_same, balance_past}

abbrev pub numbers : (ℕ → House) → ℕ → ℕ
numbers H g = (H g).number

-- a round before it settles: its posting is not among the entries looked at, and its hand is the house's last there;
-- a keeper's round is on the house's present posting
pub record RoundOk (m : Meaning) (s : State) (v : ℕ) (r : Round) : Type 0 where
  pub within : r.place ≤ length s.journal
  pub known : r.house < s.houses
  pub posted : r.number ≤ m.postings r.house
  pub behind : r.number ≤ (s.house r.house).number
  pub current : s.keeper r.house ≡ v → r.number ≡ (s.house r.house).number
  pub counted : suc (entries_of s.journal r.house r.place) ≡ r.number
  pub handed : r.hand ≡ last_hand s.journal r.house r.place

-- a round that settles stands at the entry of its posting
pub record SettlingOk (m : Meaning) (s : State) (v : ℕ) (r : Round) : Type 0 where
  pub known : r.house < s.houses
  pub posted : r.number ≤ m.postings r.house
  pub behind : r.number ≤ (s.house r.house).number
  pub current : s.keeper r.house ≡ v → r.number ≡ (s.house r.house).number
  pub here : Stands s.journal r.place r.house r.number

-- a draft that is not stale is the posting worked alone on the balances at the place of its round
abbrev pub DraftOk : Meaning → State → Round → Outcome → Bool → Type 0
DraftOk m s r d stale = stale ≡ false → d ≡ draft_of m s r

abbrev pub PhaseOk : Meaning → State → ℕ → Phase → Type 0
PhaseOk m s v resting = Unit {0}
PhaseOk m s v (looking r) = RoundOk m s v r
PhaseOk m s v (drafted r d stale) = RoundOk m s v r × DraftOk m s r d stale
PhaseOk m s v (settling r) = SettlingOk m s v r

-- the house's entries before its start are those of its postings before the present one, which at most is filed too
pub record HouseOk (es : List Posted) (patience g : ℕ) (y : House) : Type 0 where
  pub within : y.start ≤ length es
  pub counted : suc (entries_of es g y.start) ≡ y.number
  pub entered : entries_of es g (length es) ≤ y.number
  pub handed : y.hand ≡ last_hand es g y.start
  pub patient : y.date ≡ 0 → y.failed < patience

-- a favourite is an open house that its worker keeps
pub record Fond (m : Meaning) (s : State) (v : ℕ) (favourite : Option ℕ) : Type 0 where
  pub keeps : (f : ℕ) → favourite ≡ Some f → Keeps m s v f

-- how often the house has called for help at the most: once for each posting
abbrev pub calls_of : House → ℕ
calls_of y = (y.number - 1) + one (ltb 0 y.date)

pub record Sound (m : Meaning) (s : State) : Type 0 where
  pub same_houses : s.houses ≡ m.houses
  pub patience : 1 ≤ s.patience
  pub numbered : Numbered s.journal
  pub lawful : (k : ℕ) → k < length s.journal → Lawful (entry_at s.journal k)
  pub alone : AllWorkedAlone m s.openings s.journal
  pub houses : (g : ℕ) → HouseOk s.journal s.patience g (s.house g)
  pub left : (g : ℕ) → (s.house g).number ≤ suc (m.postings g)
  pub workers : (v : ℕ) → PhaseOk m s v (s.worker v).phase
  pub settled : (v g : ℕ) → (s.worker v).settled g ≤ entries_of s.journal g (length s.journal)
  pub dated : (g : ℕ) → (s.house g).date ≤ s.dates
  pub distinct : (g k : ℕ) → 0 < (s.house g).date → (s.house g).date ≡ (s.house k).date → g ≡ k
  pub open_dated : (g : ℕ) → 0 < (s.house g).date → (s.house g).number ≤ m.postings g
  pub called : s.dates ≤ sum_below (λ g. calls_of (s.house g)) s.houses
  pub fond : (v : ℕ) → Fond m s v (s.worker v).favourite
  pub next : (v : ℕ) → (s.worker v).next ≤ s.houses
  pub enough : all_postings m ≤ s.size

pub opening_sound : (m : Meaning) (p : Terms) (size : ℕ) → m.houses ≡ p.houses → 1 ≤ p.patience → all_postings m ≤ size → Sound m (opened p [] size)
unfolding last_hand
opening_sound m p size e patience enough = record {
  same_houses = sym e;
  patience = patience;
  numbered = λ k l. absurd (omega arith);
  lawful = λ k l. absurd (omega arith);
  alone = λ k l. absurd (omega arith);
  houses = λ g. record {
    within = omega arith;
    counted = ap suc (entries_none [] g);
    entered = omega (arith, entries_none [] g);
    handed = refl;
    patient = λ _. patience;
  };
  left = λ g. omega arith;
  workers = λ v. tt;
  settled = λ v g. omega arith;
  dated = λ g. omega arith;
  distinct = λ g k l f. absurd (omega arith);
  open_dated = λ g l. absurd (omega arith);
  called = omega arith;
  fond = λ v. record { keeps = λ f q. absurd (none f q) };
  next = λ v. omega arith;
  enough = enough;
}
  where
    none : (f : ℕ) → ◌≡◌ {A = Option ℕ} None (Some f) → ⊥
    none f q = let z : ◌≡◌ {A = ℕ} 0 1 = cc in omega arith

-- The journal grows and houses move on, but not those of worker v: what holds of a round of v goes on to hold.
pub record Later (v : ℕ) (s t : State) : Type 0 where
  pub grows : Grows s.journal t.journal
  pub houses : t.houses ≡ s.houses
  pub openings : t.openings ≡ s.openings
  pub keeper : t.keeper ≡ s.keeper
  pub up : (g : ℕ) → (s.house g).number ≤ (t.house g).number
  pub still : (g : ℕ) → s.keeper g ≡ v → (t.house g).number ≡ (s.house g).number

pub round_later : (m : Meaning) (v : ℕ) (s t : State) → Later v s t → (r : Round) → RoundOk m s v r → RoundOk m t v r
round_later m v s t l r k = record {
  within = omega (arith, l.grows.longer, k.within);
  known = subst (λ (n : ℕ). r.house < n) (sym l.houses) k.known;
  posted = k.posted;
  behind = omega (arith, k.behind, l.up r.house);
  current = λ e. let f : s.keeper r.house ≡ v = ap (λ (h : ℕ → ℕ). h r.house) (sym l.keeper) ∙ e in k.current f ∙ sym (l.still r.house f);
  counted = ap suc (entries_same l.grows r.house r.place k.within) ∙ k.counted;
  handed = k.handed ∙ sym (hand_same l.grows r.house r.place k.within);
}

pub phase_later : (m : Meaning) (v : ℕ) (s t : State) → Later v s t → (p : Phase) → PhaseOk m s v p → PhaseOk m t v p
phase_later m v s t l resting k = tt
phase_later m v s t l (looking r) k = round_later m v s t l r k
phase_later m v s t l (drafted r d stale) k = (round_later m v s t l r k.0, λ e. k.1 e ∙ ap (λ (f : ℕ → ℤ). alone m f r.house r.number r.hand) same)
  where
    same : balances_after s.journal s.openings r.place ≡ balances_after t.journal t.openings r.place
    same = sym (balances_same l.grows s.openings r.place k.0.within) ∙ ap (λ (o : List ℤ). balances_after t.journal o r.place) (sym l.openings)
phase_later m v s t l (settling r) k = record {
  known = subst (λ (n : ℕ). r.house < n) (sym l.houses) k.known;
  posted = k.posted;
  behind = omega (arith, k.behind, l.up r.house);
  current = λ e. let f : s.keeper r.house ≡ v = ap (λ (h : ℕ → ℕ). h r.house) (sym l.keeper) ∙ e in k.current f ∙ sym (l.still r.house f);
  here =
      let x = k.here in (
        omega (arith, l.grows.longer, x.0),
        ap (λ (e : Posted). e.house) (l.grows.same r.place x.0) ∙ x.1,
        ap (λ (e : Posted). e.number) (l.grows.same r.place x.0) ∙ x.2,
      );
}

-- past an entry that is not this posting
pub round_onward : (m : Meaning) (s : State) (v : ℕ) (r : Round) → Numbered s.journal → r.place < length s.journal
    → (Stands s.journal r.place r.house r.number → ⊥) → RoundOk m s v r → RoundOk m s v (onward r)
round_onward m s v r n l away k = record {
  within = omega arith;
  known = k.known;
  posted = k.posted;
  behind = k.behind;
  current = k.current;
  counted = ap (λ (p : ℕ). suc (entries_of J r.house p)) (add-one r.place) ∙ ap suc (entries_else J r.house r.place other) ∙ k.counted;
  handed = k.handed ∙ sym (ap (last_hand J r.house) (add-one r.place) ∙ hand_else J r.house r.place other);
}
  where
    J : List Posted
    J = s.journal

    other : (entry_at J r.place).house ≡ r.house → ⊥
    other e = away (l, e, n r.place l ∙ add-one _ ∙ ap (λ (h : ℕ). suc (entries_of J h r.place)) e ∙ k.counted)

-- a draft stays what its posting gives, past an entry that gives none of its reads
pub draft_onward : (m : Meaning) → Limits m → (s : State) (r : Round) (d : Outcome) (stale : Bool) → r.place < length s.journal
    → DraftOk m s r d stale → DraftOk m s (onward r) d (stale || touches d.reads (entry_at s.journal r.place).pairs)
draft_onward m lim s r d stale l k e =
    is ∙ always_local m lim r.house r.number r.hand before later same
  where
    parts : (stale ≡ false) × (touches d.reads (entry_at s.journal r.place).pairs ≡ false)
    parts = or_parts stale (touches d.reads (entry_at s.journal r.place).pairs) e

    before : ℕ → ℤ
    before = balances_after s.journal s.openings r.place

    later : ℕ → ℤ
    later = balances_after s.journal s.openings (r.place + 1)

    is : d ≡ alone m before r.house r.number r.hand
    is = k parts.0

    same : (a : ℕ) → get_or (alone m before r.house r.number r.hand).reads a false ≡ true → before a ≡ later a
    same a read =
        balance_past s.journal s.openings d.reads r.place l parts.1 a (ap (λ (x : Outcome). get_or x.reads a false) is ∙ read)
        ∙ ap (λ (p : ℕ). balances_after s.journal s.openings p a) (sym (add-one r.place))

module _ (m : Meaning) (s : State) (i : Sound m s) (w : ℕ) where
  pub phase_at : (p : Phase) → (s.worker w).phase ≡ p → PhaseOk m s w p
  phase_at p e = subst (PhaseOk m s w) e (i.workers w)

  -- nothing that a round of worker v needs is altered
  same_later : (v : ℕ) (x : Worker) → Later v s (with_worker s w x)
  same_later v x = record { grows = grows_not s.journal; houses = refl; openings = refl; keeper = refl; up = λ g. omega arith; still = λ g e. refl }

  -- a turn that alters the worker alone
  pub worker_turn : (x : Worker) → PhaseOk m s w x.phase → ((g : ℕ) → x.settled g ≤ entries_of s.journal g (length s.journal))
      → Fond m s w x.favourite → x.next ≤ s.houses → Sound m (with_worker s w x)
  worker_turn x p q f o = record {
    same_houses = i.same_houses;
    patience = i.patience;
    numbered = i.numbered;
    lawful = i.lawful;
    alone = i.alone;
    houses = i.houses;
    left = i.left;
    workers = put_all (λ v y. PhaseOk m (with_worker s w x) v y.phase) s.worker w x
        (phase_later m w s (with_worker s w x) (same_later w x) x.phase p)
        (λ v n. phase_later m v s (with_worker s w x) (same_later v x) (s.worker v).phase (i.workers v));
    settled = put_all (λ v y. (g : ℕ) → y.settled g ≤ entries_of s.journal g (length s.journal)) s.worker w x q (λ v n. i.settled v);
    dated = i.dated;
    distinct = i.distinct;
    open_dated = i.open_dated;
    called = i.called;
    fond = put_all (λ v y. Fond m (with_worker s w x) v y.favourite) s.worker w x (again w x.favourite f) (λ v n. again v (s.worker v).favourite (i.fond v));
    next = put_all (λ v y. y.next ≤ s.houses) s.worker w x o (λ v n. i.next v);
    enough = i.enough;
  }
    where
      again : (v : ℕ) (o : Option ℕ) → Fond m s v o → Fond m (with_worker s w x) v o
      again v o h = record { keeps = λ g e. let a = h.keeps g e in record { is_open = record { known = a.is_open.known; left = a.is_open.left }; keeper = a.keeper } }

  pub phase_turn : (p : Phase) → PhaseOk m s w p → Sound m (to_phase s w p)
  phase_turn p k = worker_turn (in_phase (s.worker w) p) k (i.settled w) (i.fond w) (i.next w)

  -- a turn that alters a house's failed count and help date
  module _ (h : ℕ) (y : House) (dates : ℕ) (en : y.number ≡ (s.house h).number) where
    counted_on : State
    counted_on = with_dates (with_house s h y) dates

    kept_number : (g : ℕ) → (put s.house h y g).number ≡ (s.house g).number
    kept_number = put_all (λ g z. z.number ≡ (s.house g).number) s.house h y en (λ g n. refl)

    counted_later : (v : ℕ) → Later v s counted_on
    unfolding counted_on
    counted_later v = record {
      grows = grows_not s.journal;
      houses = refl;
      openings = refl;
      keeper = refl;
      up = λ g. omega (arith, kept_number g);
      still = λ g e. kept_number g;
    }

    pub house_turn : y.hand ≡ (s.house h).hand → y.start ≡ (s.house h).start → (y.date ≡ 0 → y.failed < s.patience)
        → s.dates ≤ dates → y.date ≤ dates → ((k : ℕ) → (h ≡ k → ⊥) → 0 < y.date → y.date ≡ (s.house k).date → ⊥)
        → (0 < y.date → y.number ≤ m.postings h) → dates ≤ sum_below (λ g. calls_of (put s.house h y g)) s.houses
        → Sound m (with_dates (with_house s h y) dates)
    unfolding counted_on
    house_turn eh es patient ld ly apart od few = record {
      same_houses = i.same_houses;
      patience = i.patience;
      numbered = i.numbered;
      lawful = i.lawful;
      alone = i.alone;
      houses = put_all (λ g z. HouseOk s.journal s.patience g z) s.house h y at_h (λ g n. i.houses g);
      left = λ g. omega (arith, kept_number g, i.left g);
      workers = λ v. phase_later m v s counted_on (counted_later v) (s.worker v).phase (i.workers v);
      settled = i.settled;
      dated = put_all (λ g z. z.date ≤ dates) s.house h y ly (λ g n. omega (arith, i.dated g));
      distinct = λ g k. put_all (λ g z. 0 < z.date → z.date ≡ (put s.house h y k).date → g ≡ k) s.house h y
          (put_all (λ k z. 0 < y.date → y.date ≡ z.date → h ≡ k) s.house h y (λ l e. refl) (λ k n l e. absurd (apart k n l e)) k)
          (λ g n. put_all (λ k z. 0 < (s.house g).date → (s.house g).date ≡ z.date → g ≡ k) s.house h y
          (λ l e. absurd (apart g n (omega arith) (sym e))) (λ k q. i.distinct g k) k)
          g;
      open_dated = put_all (λ g z. 0 < z.date → z.number ≤ m.postings g) s.house h y od (λ g n. i.open_dated g);
      called = few;
      fond = λ v. record {
        keeps = λ f e.
            let a = (i.fond v).keeps f e in
            record { is_open = record { known = a.is_open.known; left = omega (arith, kept_number f, a.is_open.left) }; keeper = a.keeper };
      };
      next = i.next;
      enough = i.enough;
    }
      where
        at_h : HouseOk s.journal s.patience h y
        at_h = record {
          within = omega (arith, (i.houses h).within);
          counted = ap (λ (p : ℕ). suc (entries_of s.journal h p)) es ∙ (i.houses h).counted ∙ sym en;
          entered = omega (arith, (i.houses h).entered);
          handed = eh ∙ (i.houses h).handed ∙ ap (last_hand s.journal h) (sym es);
          patient = patient;
        }

  -- a settling worker's posting is filed
  pub settled_entry : (r : Round) → SettlingOk m s w r → entries_of s.journal r.house (suc r.place) ≡ r.number
  settled_entry r k =
      entries_here s.journal r.house r.place k.here.1
      ∙ ap (λ (h : ℕ). suc (entries_of s.journal h r.place)) (sym k.here.1)
      ∙ sym (add-one _) ∙ sym (i.numbered r.place k.here.0) ∙ k.here.2

  pub settled_filed : (r : Round) → SettlingOk m s w r → r.number ≤ entries_of s.journal r.house (length s.journal)
  settled_filed r k =
      omega (arith, settled_entry r k, entries_up s.journal r.house (suc r.place) (length s.journal) k.here.0)

  settled_more : (r : Round) (favourite : Option ℕ) → SettlingOk m s w r
      → (g : ℕ) → (has_settled (s.worker w) r favourite).settled g ≤ entries_of s.journal g (length s.journal)
  settled_more r favourite k =
      put_all (λ g n. n ≤ entries_of s.journal g (length s.journal)) (s.worker w).settled r.house r.number
      (settled_filed r k) (λ g n. i.settled w g)

  -- settling the posting of another worker's house
  pub settling_turn : (r : Round) → (s.worker w).phase ≡ settling r → Sound m (with_worker s w (has_settled (s.worker w) r (s.worker w).favourite))
  settling_turn r e =
      worker_turn (has_settled (s.worker w) r (s.worker w).favourite) tt (settled_more r (s.worker w).favourite (phase_at (settling r) e)) (i.fond w) (i.next w)

  -- a keeper that settles moves its house on
  module _ (r : Round) (favourite : Option ℕ) (e : (s.worker w).phase ≡ settling r) (mine : s.keeper r.house ≡ w)
      (drop : (f : ℕ) → favourite ≡ Some f → ((s.worker w).favourite ≡ Some f) × (r.house ≡ f → ⊥)) where
    y : House
    y = moved_on (s.house r.house) (entry_at s.journal r.place).hand r.place

    x : Worker
    x = has_settled (s.worker w) r favourite

    moved : State
    moved = with_house (with_worker s w x) r.house y

    k : SettlingOk m s w r
    k = phase_at (settling r) e

    up : (g : ℕ) → (s.house g).number ≤ (put s.house r.house y g).number
    unfolding y
    up = put_all (λ g z. (s.house g).number ≤ z.number) s.house r.house y (omega arith) (λ g n. omega arith)

    still : (g : ℕ) → (r.house ≡ g → ⊥) → (put s.house r.house y g).number ≡ (s.house g).number
    still g n = ap (λ (z : House). z.number) (put_other s.house r.house y g n)

    moved_later : (v : ℕ) → (w ≡ v → ⊥) → Later v s moved
    unfolding moved
    moved_later v n = record {
      grows = grows_not s.journal;
      houses = refl;
      openings = refl;
      keeper = refl;
      up = up;
      still = λ g kv. still g (λ f. n (sym mine ∙ ap s.keeper f ∙ kv));
    }

    at_h : HouseOk s.journal s.patience r.house y
    unfolding y
    at_h = record {
      within = omega (arith, k.here.0);
      counted =
          ap (λ (p : ℕ). suc (entries_of s.journal r.house p)) (add-one r.place) ∙ ap suc (settled_entry r k ∙ k.current mine) ∙ sym (add-one _);
      entered = omega (arith, (i.houses r.house).entered);
      handed = sym (ap (last_hand s.journal r.house) (add-one r.place) ∙ hand_here s.journal r.house r.place k.here.1);
      patient = λ _. i.patience;
    }

    open_still : (f : ℕ) → (r.house ≡ f → ⊥) → (s.house f).number ≤ m.postings f → (put s.house r.house y f).number ≤ m.postings f
    open_still f n l = omega (arith, still f n)

    calls_kept : (g : ℕ) → calls_of (s.house g) ≤ calls_of (put s.house r.house y g)
    unfolding y
    calls_kept = put_all (λ g z. calls_of (s.house g) ≤ calls_of z) s.house r.house y
        (omega (arith, one_le (ltb 0 (s.house r.house).date), (i.houses r.house).counted)) (λ g n. omega arith)

    pub moving : Sound m (with_house (with_worker s w (has_settled (s.worker w) r favourite)) r.house
        (moved_on (s.house r.house) (entry_at s.journal r.place).hand r.place))
    unfolding moved x y
    moving = record {
      same_houses = i.same_houses;
      patience = i.patience;
      numbered = i.numbered;
      lawful = i.lawful;
      alone = i.alone;
      houses = put_all (λ g z. HouseOk s.journal s.patience g z) s.house r.house y at_h (λ g n. i.houses g);
      left = put_all (λ g z. z.number ≤ suc (m.postings g)) s.house r.house y (omega (arith, k.current mine, k.posted)) (λ g n. i.left g);
      workers = put_all (λ v z. PhaseOk m moved v z.phase) s.worker w x tt
          (λ v n. phase_later m v s moved (moved_later v n) (s.worker v).phase (i.workers v));
      settled = put_all (λ v z. (g : ℕ) → z.settled g ≤ entries_of s.journal g (length s.journal)) s.worker w x (settled_more r favourite k) (λ v n. i.settled v);
      dated = put_all (λ g z. z.date ≤ s.dates) s.house r.house y (omega arith) (λ g n. i.dated g);
      distinct = λ g k. put_all (λ g z. 0 < z.date → z.date ≡ (put s.house r.house y k).date → g ≡ k) s.house r.house y
          (λ l f. absurd (omega arith))
          (λ g n. put_all (λ k z. 0 < (s.house g).date → (s.house g).date ≡ z.date → g ≡ k) s.house r.house y
          (λ l f. absurd (omega arith)) (λ k q. i.distinct g k) k)
          g;
      open_dated = put_all (λ g z. 0 < z.date → z.number ≤ m.postings g) s.house r.house y (λ l. absurd (omega arith)) (λ g n. i.open_dated g);
      called = omega (arith, i.called, sum_le (λ g. calls_of (s.house g)) (λ g. calls_of (put s.house r.house y g)) s.houses (λ g l. calls_kept g));
      fond = put_all (λ v z. Fond m moved v z.favourite) s.worker w x
          (record {
            keeps = λ f q.
                let b = drop f q in
                let a = (i.fond w).keeps f b.0 in
                record { is_open = record { known = a.is_open.known; left = open_still f b.1 a.is_open.left }; keeper = a.keeper };
          })
          (λ v n. record {
            keeps = λ f q.
                let a = (i.fond v).keeps f q in
                record { is_open = record { known = a.is_open.known; left = open_still f (λ z. n (sym mine ∙ ap s.keeper z ∙ a.keeper)) a.is_open.left }; keeper = a.keeper };
          });
      next = put_all (λ v z. z.next ≤ s.houses) s.worker w x (i.next w) (λ v n. i.next v);
      enough = i.enough;
    }

-- every closing hand before a place is in range
pub hand_in_range : (es : List Posted) → ((k : ℕ) → k < length es → Lawful (entry_at es k)) → (h k : ℕ) → k ≤ length es → InRange (last_hand es h k)
unfolding last_hand
hand_in_range es law h zero l = omega arith
hand_in_range es law h (suc n) l = go (eqb (entry_at es n).house h) (hand_in_range es law h n (omega arith))
  where
    go : (b : Bool) → InRange (last_hand es h n) → InRange (cond b (entry_at es n).hand (last_hand es h n))
    go true before = (law n l).hand
    go false before = before

-- filing a draft that is not stale
module _ (m : Meaning) (lim : Limits m) (s : State) (i : Sound m s) (w : ℕ) (r : Round) (d : Outcome)
    (e : (s.worker w).phase ≡ drafted r d false) (full : r.place ≡ length s.journal) where
  filed : Posted
  filed = posted_for d r.house r.number

  grown : List Posted
  grown = s.journal ++ (filed ∷ [])

  ok : RoundOk m s w r × DraftOk m s r d false
  ok = phase_at m s i w (drafted r d false) e

  -- it is a lawful entry
  pub filed_lawful : Lawful (posted_for d r.house r.number)
  filed_lawful =
      subst (λ (o : Outcome). Lawful (posted_for o r.house r.number)) (sym (ok.1 refl))
      (always_enterable m lim r.house r.number r.hand (balances_after s.journal s.openings r.place)
      (omega (arith, ok.0.known, i.same_houses, lim.houses)) (omega (arith, ok.0.counted)) (omega (arith, ok.0.posted, lim.postings r.house))
      (subst InRange (sym ok.0.handed) (hand_in_range s.journal i.lawful r.house r.place ok.0.within)))

  grows : Grows s.journal grown
  unfolding grown
  grows = grows_push s.journal filed

  long : length grown ≡ suc (length s.journal)
  unfolding grown
  long = omega (arith, length_push s.journal filed)

  new : entry_at grown (length s.journal) ≡ filed
  unfolding grown
  new = entry_push s.journal filed

  new_house_lem : (entry_at grown (length s.journal)).house ≡ r.house
  unfolding filed
  new_house_lem = ap (λ (x : Posted). x.house) new

  new_number : (entry_at grown (length s.journal)).number ≡ r.number
  unfolding filed
  new_number = ap (λ (x : Posted). x.number) new

  count : suc (entries_of s.journal r.house (length s.journal)) ≡ r.number
  count = ap (λ (p : ℕ). suc (entries_of s.journal r.house p)) (sym full) ∙ ok.0.counted

  count_new : entries_of grown r.house (length s.journal) ≡ entries_of s.journal r.house (length s.journal)
  count_new = entries_same grows r.house (length s.journal) (omega arith)

  -- what holds of the new entry, and of the others, holds of all
  of_all : (P : ℕ → Posted → Type 0) → P (length s.journal) filed → ((k : ℕ) → k < length s.journal → P k (entry_at s.journal k))
      → (k : ℕ) → k < length grown → P k (entry_at grown k)
  of_all P p q k l = go (cases_eq k (length s.journal))
    where
      go : (k ≡ length s.journal) ⊎ (k ≡ length s.journal → ⊥) → P k (entry_at grown k)
      go (inl f) = subst (λ (k : ℕ). P k (entry_at grown k)) (sym f) (subst (P (length s.journal)) (sym new) p)
      go (inr f) =
          let b : k < length s.journal = omega (arith, long) in
          subst (P k) (sym (grows.same k b)) (q k b)

  lawful_more : (k : ℕ) → k < length grown → Lawful (entry_at grown k)
  unfolding filed
  lawful_more = of_all (λ k x. Lawful x) filed_lawful i.lawful

  numbered_more : Numbered grown
  unfolding filed
  numbered_more = of_all (λ k x. x.number ≡ entries_of grown x.house k + 1)
      (sym count ∙ ap suc (sym count_new) ∙ sym (add-one _))
      (λ k l. i.numbered k l ∙ ap (λ (n : ℕ). n + 1) (sym (entries_same grows (entry_at s.journal k).house k (omega arith))))

  abbrev Parts : ℕ → Posted → Type 0
  Parts k x =
      (x.house < m.houses) × (1 ≤ x.number) × (x.number ≤ m.postings x.house)
      × (x ≡ posted_for (alone m (balances_after grown s.openings k) x.house x.number (last_hand grown x.house k)) x.house x.number)

  alone_more : AllWorkedAlone m s.openings grown
  unfolding filed
  alone_more k l = record {
    house = parts.0;
    first = parts.1;
    last = parts.2;
    gives = parts.3;
  }
    where
      bals : balances_after s.journal s.openings r.place ≡ balances_after grown s.openings (length s.journal)
      bals = ap (balances_after s.journal s.openings) full ∙ sym (balances_same grows s.openings (length s.journal) (omega arith))

      hands : r.hand ≡ last_hand grown r.house (length s.journal)
      hands = ok.0.handed ∙ ap (last_hand s.journal r.house) full ∙ sym (hand_same grows r.house (length s.journal) (omega arith))

      here : Parts (length s.journal) filed
      here = (
        omega (arith, ok.0.known, i.same_houses),
        omega (arith, ok.0.counted),
        ok.0.posted,
        ap (λ (o : Outcome). posted_for o r.house r.number)
            (ok.1 refl ∙ ap (λ (f : ℕ → ℤ). alone m f r.house r.number r.hand) bals
            ∙ ap (alone m (balances_after grown s.openings (length s.journal)) r.house r.number) hands),
      )

      others : (k : ℕ) → k < length s.journal → Parts k (entry_at s.journal k)
      others k l =
          let a = i.alone k l in
          let x = entry_at s.journal k in (
            a.house,
            a.first,
            a.last,
            a.gives
                ∙ ap (λ (f : ℕ → ℤ). posted_for (alone m f x.house x.number (last_hand s.journal x.house k)) x.house x.number)
                (sym (balances_same grows s.openings k (omega arith)))
                ∙ ap (λ (z : ℤ). posted_for (alone m (balances_after grown s.openings k) x.house x.number z) x.house x.number)
                (sym (hand_same grows x.house k (omega arith))),
          )

      parts : Parts k (entry_at grown k)
      parts = of_all Parts here others k l

  entered_more : (g : ℕ) → entries_of grown g (length grown) ≤ (s.house g).number
  entered_more g = subst (λ (n : ℕ). entries_of grown g n ≤ (s.house g).number) (sym long) (go (cases_eq r.house g))
    where
      go : (r.house ≡ g) ⊎ (r.house ≡ g → ⊥) → entries_of grown g (suc (length s.journal)) ≤ (s.house g).number
      go (inl f) = subst (λ (g : ℕ). entries_of grown g (suc (length s.journal)) ≤ (s.house g).number) f
          (omega (arith, entries_here grown r.house (length s.journal) new_house_lem, count, count_new, ok.0.behind))
      go (inr f) =
          omega (arith, entries_else grown g (length s.journal) (λ q. f (sym new_house_lem ∙ q)), entries_same grows g (length s.journal) (omega arith), (i.houses g).entered)

  more_entries : (g : ℕ) → entries_of s.journal g (length s.journal) ≤ entries_of grown g (length grown)
  more_entries g = omega (arith, entries_same grows g (length s.journal) (omega arith), entries_up grown g (length s.journal) (length grown) grows.longer)

  after_filing : State
  after_filing = with_journal (to_phase s w (settling r)) grown

  filing_later : (v : ℕ) → Later v s after_filing
  unfolding after_filing
  filing_later v = record { grows = grows; houses = refl; openings = refl; keeper = refl; up = λ g. omega arith; still = λ g f. refl }

  settling_new : SettlingOk m after_filing w r
  unfolding after_filing
  settling_new = record {
    known = ok.0.known;
    posted = ok.0.posted;
    behind = ok.0.behind;
    current = ok.0.current;
    here = (omega (arith, long), ap (λ (p : ℕ). (entry_at grown p).house) full ∙ new_house_lem, ap (λ (p : ℕ). (entry_at grown p).number) full ∙ new_number);
  }

  pub filing : Sound m (with_journal (to_phase s w (settling r)) (filed_now s r d))
  unfolding after_filing grown filed
  filing = record {
    same_houses = i.same_houses;
    patience = i.patience;
    numbered = numbered_more;
    lawful = lawful_more;
    alone = alone_more;
    houses = λ g. record {
      within = omega (arith, grows.longer, (i.houses g).within);
      counted = ap suc (entries_same grows g (s.house g).start (i.houses g).within) ∙ (i.houses g).counted;
      entered = entered_more g;
      handed = (i.houses g).handed ∙ sym (hand_same grows g (s.house g).start (i.houses g).within);
      patient = (i.houses g).patient;
    };
    left = i.left;
    workers = put_all (λ v z. PhaseOk m after_filing v z.phase) s.worker w (in_phase (s.worker w) (settling r)) settling_new
        (λ v n. phase_later m v s after_filing (filing_later v) (s.worker v).phase (i.workers v));
    settled = put_all (λ v z. (g : ℕ) → z.settled g ≤ entries_of grown g (length grown)) s.worker w (in_phase (s.worker w) (settling r))
        (λ g. omega (arith, i.settled w g, more_entries g)) (λ v n g. omega (arith, i.settled v g, more_entries g));
    dated = i.dated;
    distinct = i.distinct;
    open_dated = i.open_dated;
    called = i.called;
    fond = put_all (λ v z. Fond m after_filing v z.favourite) s.worker w (in_phase (s.worker w) (settling r)) (again w) (λ v n. again v);
    next = put_all (λ v z. z.next ≤ s.houses) s.worker w (in_phase (s.worker w) (settling r)) (i.next w) (λ v n. i.next v);
    enough = i.enough;
  }
    where
      again : (v : ℕ) → Fond m after_filing v (s.worker v).favourite
      again v = record {
        keeps = λ f q.
            let a = (i.fond v).keeps f q in record { is_open = record { known = a.is_open.known; left = a.is_open.left }; keeper = a.keeper };
      }

-- a new round on an open house
taking : (m : Meaning) (s : State) → Sound m s → (w g : ℕ) → Open m s g → (favourite : Option ℕ) (next : ℕ) → Fond m s w favourite
    → next ≤ s.houses → Sound m (taken_up s w g favourite next)
taking m s i w g o favourite next fond l =
    worker_turn m s i w (record { phase = looking (new_round s g); settled = (s.worker w).settled; favourite = favourite; next = next })
    (record {
      within = (i.houses g).within;
      known = o.known;
      posted = o.left;
      behind = omega arith;
      current = λ _. refl;
      counted = (i.houses g).counted;
      handed = (i.houses g).handed;
    }) (i.settled w) fond l

-- a favourite that is kept is another house
kept_favourite : (h : ℕ) (old new : Option ℕ) → Dropped h old new → (f : ℕ) → new ≡ Some f → (old ≡ Some f) × (h ≡ f → ⊥)
kept_favourite h old new had_none f q = absurd (let z : ◌≡◌ {A = ℕ} 0 1 = cc in omega arith)
kept_favourite h old new was_this f q = absurd (let z : ◌≡◌ {A = ℕ} 0 1 = cc in omega arith)
kept_favourite h old new (was_other g n) f q = (q, λ e. n (let z : g ≡ f = cc in z ∙ sym e))

-- every turn keeps it
pub kept : (m : Meaning) → Limits m → (s : State) (w : ℕ) → Sound m s → (a : Answer) (t : State) → Step m s w a t → Sound m t
kept m lim s w i a t (helps g e asks) = taking m s i w g asks.asks.is_open (s.worker w).favourite (s.worker w).next (i.fond w) (i.next w)
kept m lim s w i a t (returns g e none f) =
    taking m s i w g ((i.fond w).keeps g f).is_open (Some g) (s.worker w).next (subst (Fond m s w) f (i.fond w)) (i.next w)
kept m lim s w i a t (chooses g e none f next) =
    taking m s i w g next.keeps.is_open (Some g) (g + 1) (record { keeps = λ k q. subst (Keeps m s w) (same k q) next.keeps }) (omega (arith, next.keeps.is_open.known))
  where
    same : (k : ℕ) → Some g ≡ Some k → g ≡ k
    same k q = cc
kept m lim s w i a t (idles e none f nobody) = i
kept m lim s w i a t (passes r e l away) =
    phase_turn m s i w (looking (onward r)) (round_onward m s w r i.numbered l away (phase_at m s i w (looking r) e))
kept m lim s w i a t (finds r e here) =
    let k = phase_at m s i w (looking r) e in
    phase_turn m s i w (settling r) (record { known = k.known; posted = k.posted; behind = k.behind; current = k.current; here = here })
kept m lim s w i a t (drafts r e full) = phase_turn m s i w (drafted r (draft_of m s r) false) (phase_at m s i w (looking r) e, λ _. refl)
kept m lim s w i a t (overtakes r d stale e l away) =
    let k = phase_at m s i w (drafted r d stale) e in
    phase_turn m s i w (drafted (onward r) d (stale || touches d.reads (entry_at s.journal r.place).pairs))
    (round_onward m s w r i.numbered l away k.0, draft_onward m lim s r d stale l k.1)
kept m lim s w i a t (meets r d stale e here) =
    let k = (phase_at m s i w (drafted r d stale) e).0 in
    phase_turn m s i w (settling r) (record { known = k.known; posted = k.posted; behind = k.behind; current = k.current; here = here })
kept m lim s w i a t (files r d e full) = filing m lim s i w r d e full
kept m lim s w i a t (drops r d e full other) = phase_turn m s i w resting tt
kept m lim s w i a t (fails r d e full mine undated patient) =
    house_turn m (to_phase s w resting) (phase_turn m s i w resting tt) w r.house (failing (s.house r.house)) s.dates refl
    refl refl (λ _. patient) (omega arith) (omega (arith, undated)) (λ k n l f. omega (arith, undated)) (λ l. absurd (omega (arith, undated)))
    (omega (
      arith,
      i.called,
      sum_le (λ g. calls_of (s.house g)) (λ g. calls_of (put s.house r.house (failing (s.house r.house)) g)) s.houses
          (λ g l. put_all (λ g z. calls_of (s.house g) ≤ calls_of z) s.house r.house (failing (s.house r.house)) (omega arith) (λ g n. omega arith) g),
    ))
kept m lim s w i a t (calls r d e full mine undated impatient) =
    house_turn m (to_phase s w resting) (phase_turn m s i w resting tt) w r.house y (s.dates + 1) refl
    refl refl (λ z. absurd (omega arith)) (omega arith) (omega arith) (λ k n l f. omega (arith, i.dated k))
    (λ l. let q = (phase_at m s i w (drafted r d true) e).0 in omega (arith, q.current mine, q.posted))
    (omega (
      arith,
      i.called,
      sum_more r.house (λ g. calls_of (s.house g)) (λ g. calls_of (put s.house r.house y g)) s.houses (phase_at m s i w (drafted r d true) e).0.known more,
    ))
  where
    y : House
    y = calling (s.house r.house) (s.dates + 1)

    more : (g : ℕ) → calls_of (put s.house r.house y g) ≡ one (eqb r.house g) + calls_of (s.house g)
    more = put_all (λ g z. calls_of z ≡ one (eqb r.house g) + calls_of (s.house g)) s.house r.house y
        (omega (arith, ap one (eq-eqb r.house r.house refl), ap one (lt-ltb 0 (s.dates + 1) (omega arith)), ap (λ (x : ℕ). one (ltb 0 x)) undated))
        (λ g n. omega (arith, ap one (ne_eqb r.house g n)))
kept m lim s w i a t (settles r e other) = settling_turn m s i w r e
kept m lim s w i a t (moves_on r favourite e mine l drop) = moving m s i w r favourite e mine (kept_favourite r.house (s.worker w).favourite favourite drop)
