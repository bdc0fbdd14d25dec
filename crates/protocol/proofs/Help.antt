-- Help in time. A posting has called for help. Of every other house that still may file before it, at most one posting does: a house
-- counts as ahead while its posting is not filed and it has an earlier help date, or a worker is in a round on that posting.
-- No turn lets a further house count while the posting waits, and each filing of another posting takes one away.
use Rattle.std.proofs.Common.{◌≡◌, ℕ, zero, suc, ◌+◌, ◌-◌, ◌<◌, ◌≤◌, Bool, true, false, not, ◌&&◌, ◌||◌, eqb, ltb, ◌⊎◌, List, [], ◌∷◌, length, Decides, Option, sym, refl, ap, ◌∙◌, subst, inl, inr, arith}
use Rattle.std.proofs.lemmas.List.{length_push}
use Rattle.std.proofs.lemmas.Bool.{cases_eq, cases_lt, both_ways, ltb-true, lt-ltb, or_cases, or_left, or_right}
use Rattle.std.proofs.lemmas.Bool.Decides.{Decides-eqb, Decides-ltb, Decides-and, Decides-not}
use Rattle.journal.specs.Entries.{Posted}
use Rattle.posting.specs.Alone.{Outcome, posted_for}
use Rattle.posting.specs.Sources.{Meaning, Limits}
use Rattle.protocol.specs.Counting.{one, how_many, put}
use Rattle.protocol.specs.History.{entry_at, entries_of}
use Rattle.protocol.specs.State.{House, Round, Phase, resting, looking, drafted, settling, Worker, State, with_worker, with_house, with_journal, with_dates, in_phase, to_phase}
use Rattle.protocol.specs.Serving.{Asks}
use Rattle.protocol.specs.Rules.{Answer, kind_of, house_of, number_of, new_round, onward, draft_of, filed_now, failing, calling, moved_on, has_settled, Step, helps, returns, chooses, idles, passes, finds, drafts, overtakes, meets, files, drops, fails, calls, settles, moves_on}
use Rattle.protocol.specs.Turn.{turn, after_turns}
use Rattle.protocol.specs.Promises.{Within}
use Rattle.protocol.proofs.Counts.{count_none, count_next, count_mono, count_less, count_short, count_some, put_same, put_other, put_all}
use Rattle.protocol.proofs.Grown.{Grows, grows_not, grows_push, grows_then, entry_push, entries_same, entries_here, entries_else, entries_up, stands_still}
use Rattle.protocol.proofs.Sound.{Sound, RoundOk, PhaseOk, phase_at, settled_filed}
use Rattle.protocol.proofs.Once.{stands_somewhere, stands_nowhere}
use Rattle.protocol.proofs.Outcomes.{turn_follows, turn_kept}
use Rattle.protocol.proofs.Unaltered.{turn_same}

-- all of the house's entries
abbrev filings : State → ℕ → ℕ
filings s g = entries_of s.journal g (length s.journal)

-- a round on posting n of house g that may still file it

abbrev On : ℕ → ℕ → Phase → Type 0
On g n resting = ⊥
On g n (looking r) = (r.house ≡ g) × (r.number ≡ n)
On g n (drafted r d stale) = (r.house ≡ g) × (r.number ≡ n)
On g n (settling r) = ⊥

abbrev on : ℕ → ℕ → Phase → Bool
on g n resting = false
on g n (looking r) = eqb r.house g && eqb r.number n
on g n (drafted r d stale) = eqb r.house g && eqb r.number n
on g n (settling r) = false

none_says : Decides false ⊥
none_says = (λ e. absurd (both_ways false refl e), λ x. absurd x)

on_says : (g n : ℕ) (p : Phase) → Decides (on g n p) (On g n p)
on_says g n resting = none_says
on_says g n (looking r) = Decides-and _ _ (Decides-eqb r.house g) (Decides-eqb r.number n)
on_says g n (drafted r d stale) = Decides-and _ _ (Decides-eqb r.house g) (Decides-eqb r.number n)
on_says g n (settling r) = none_says

-- some worker is in such a round on the house's present posting
abbrev Busy : State → ℕ → Type 0
Busy s g = (v : ℕ) × (v < s.workers) × On g (s.house g).number (s.worker v).phase

busy : State → ℕ → Bool
busy s g = ltb 0 (how_many (λ v. on g (s.house g).number (s.worker v).phase) s.workers)

-- one that passes, where some do
found : (p : ℕ → Bool) (n : ℕ) → 0 < how_many p n → (k : ℕ) × (k < n) × (p k ≡ true)
found p zero l = absurd (omega (arith, count_none p))
found p (suc n) l = go (p n) refl (λ k. found p n k)
  where
    go : (b : Bool) → p n ≡ b → (0 < how_many p n → (k : ℕ) × (k < n) × (p k ≡ true)) → (k : ℕ) × (k < suc n) × (p k ≡ true)
    go true e ih = (n, omega arith, e)
    go false e ih = let f = ih (omega (arith, count_next p n, ap one e)) in (f.0, omega arith, f.2)

busy_says : (s : State) (g : ℕ) → Decides (busy s g) (Busy s g)
unfolding busy
busy_says s g = (
  λ e. let f = found (λ v. on g (s.house g).number (s.worker v).phase) s.workers (ltb-true _ _ e) in
      (f.0, f.1, (on_says g (s.house g).number (s.worker f.0).phase).0 f.2),
  λ b. lt-ltb _ _ (count_some (λ v. on g (s.house g).number (s.worker v).phase) s.workers b.0 b.1 ((on_says g (s.house g).number (s.worker b.0).phase).1 b.2)),
)

-- an earlier help date
abbrev Sooner : ℕ → ℕ → Type 0
Sooner D x = (0 < x) × (x < D)

abbrev sooner : ℕ → ℕ → Bool
sooner D x = ltb 0 x && ltb x D

-- another house that may file before house h with date D: its posting is not filed, and it is served sooner or worked on
pub record Ahead (s : State) (h D g : ℕ) : Type 0 where
  pub other : g ≡ h → ⊥
  pub unfiled : filings s g < (s.house g).number
  pub served : Sooner D (s.house g).date ⊎ Busy s g

ahead : State → ℕ → ℕ → ℕ → Bool
ahead s h D g = not (eqb g h) && (ltb (filings s g) (s.house g).number && (sooner D (s.house g).date || busy s g))

decides_or : {P Q : Type 0} (a b : Bool) → Decides a P → Decides b Q → Decides (a || b) (P ⊎ Q)
decides_or a b p q = (λ e. elim (or_cases a b e) [ inl x ↦ inl (p.0 x) | inr y ↦ inr (q.0 y) ], λ z. elim z [ inl x ↦ or_left a b (p.1 x) | inr y ↦ or_right a b (q.1 y) ])

ahead_says : (s : State) (h D g : ℕ) → Decides (ahead s h D g) (Ahead s h D g)
unfolding ahead
ahead_says s h D g = (λ e. let p = d.0 e in record { other = p.0; unfiled = p.1.0; served = p.1.1 }, λ a. d.1 (a.other, (a.unfiled, a.served)))
  where
    d : Decides (not (eqb g h) && (ltb (filings s g) (s.house g).number && (sooner D (s.house g).date || busy s g)))
        ((g ≡ h → ⊥) × ((filings s g < (s.house g).number) × (Sooner D (s.house g).date ⊎ Busy s g)))
    d = Decides-and _ _ (Decides-not _ (Decides-eqb g h)) (Decides-and _ _ (Decides-ltb (filings s g) (s.house g).number)
        (decides_or _ _ (Decides-and _ _ (Decides-ltb 0 (s.house g).date) (Decides-ltb (s.house g).date D)) (busy_says s g)))

decides_false : {P : Type 0} (b : Bool) → Decides b P → (P → ⊥) → b ≡ false
decides_false true d f = absurd (f (d.0 refl))
decides_false false d f = refl

pub houses_ahead : State → ℕ → ℕ → ℕ
houses_ahead s h D = how_many (ahead s h D) s.houses

-- at most the other houses
pub ahead_few : (s : State) (h D : ℕ) → h < s.houses → houses_ahead s h D ≤ s.houses - 1
unfolding houses_ahead
ahead_few s h D l = omega (arith, count_short (ahead s h D) s.houses h l (decides_false _ (ahead_says s h D h) (λ a. a.other refl)))

-- posting n of house h waits under its help date D
pub record Waits (m : Meaning) (h n D : ℕ) (s : State) : Type 0 where
  pub known : h < s.houses
  pub first : 1 ≤ n
  pub posted : n ≤ m.postings h
  pub dated : 0 < D
  pub number_is : (s.house h).number ≡ n
  pub date_is : (s.house h).date ≡ D
  pub unfiled : filings s h < n

-- it waits on, and no more can come before it
record Falls (m : Meaning) (h n D : ℕ) (s t : State) : Type 0 where
  waits : Waits m h n D t
  falls : length t.journal + houses_ahead t h D ≤ length s.journal + houses_ahead s h D

module _ (m : Meaning) (lim : Limits m) (h n D : ℕ) (s : State) (i : Sound m s) (q : Waits m h n D s) (w : ℕ) (lw : w < s.workers) where
  -- the house has filed all its postings but the present one, and perhaps that too
  nearly : (g : ℕ) → (s.house g).number ≤ suc (filings s g)
  nearly g = omega (arith, (i.houses g).counted, entries_up s.journal g (s.house g).start (length s.journal) (i.houses g).within)

  -- a turn that files nothing and lets no house count that did not
  falls_if : (t : State) → t.journal ≡ s.journal → t.houses ≡ s.houses → (t.house h).number ≡ (s.house h).number → (t.house h).date ≡ (s.house h).date
      → ((g : ℕ) → Ahead t h D g → Ahead s h D g) → Falls m h n D s t
  unfolding houses_ahead
  falls_if t ej eh en ed back = record {
    waits = record {
      known = subst (λ (x : ℕ). h < x) (sym eh) q.known;
      first = q.first;
      posted = q.posted;
      dated = q.dated;
      number_is = en ∙ q.number_is;
      date_is = ed ∙ q.date_is;
      unfiled = subst (λ (es : List Posted). entries_of es h (length es) < n) (sym ej) q.unfiled;
    };
    falls =
        let a : how_many (ahead t h D) s.houses ≤ how_many (ahead s h D) s.houses =
        count_mono (ahead t h D) (ahead s h D) s.houses (λ g _ e. (ahead_says s h D g).1 (back g ((ahead_says t h D g).0 e))) in
        let b : houses_ahead t h D ≡ how_many (ahead t h D) s.houses = ap (how_many (ahead t h D)) eh in
        omega (arith, ap length ej);
  }

  -- a turn that alters the worker alone
  worker_falls : (x : Worker) → ((g : ℕ) → (g ≡ h → ⊥) → On g (s.house g).number x.phase → Sooner D (s.house g).date ⊎ Busy s g) → Falls m h n D s (with_worker s w x)
  worker_falls x new = falls_if (with_worker s w x) refl refl refl refl (λ g a. record { other = a.other; unfiled = a.unfiled; served = served g a.other a.served })
    where
      by_worker : (g : ℕ) → (g ≡ h → ⊥) → (v : ℕ) → v < s.workers → On g (s.house g).number (put s.worker w x v).phase → Sooner D (s.house g).date ⊎ Busy s g
      by_worker g other = put_all (λ v z. v < s.workers → On g (s.house g).number z.phase → Sooner D (s.house g).date ⊎ Busy s g) s.worker w x
          (λ l o. new g other o) (λ v d l o. inr (v, l, o))

      served : (g : ℕ) → (g ≡ h → ⊥) → Sooner D (s.house g).date ⊎ Busy (with_worker s w x) g → Sooner D (s.house g).date ⊎ Busy s g
      served g other (inl z) = inl z
      served g other (inr b) = by_worker g other b.0 b.1 b.2

  -- the worker goes on with its round, or ends it
  same_round : (x : Worker) → ((g k : ℕ) → On g k x.phase → On g k (s.worker w).phase) → Falls m h n D s (with_worker s w x)
  same_round x back = worker_falls x (λ g other o. inr (w, lw, back g (s.house g).number o))

  -- a new round is on h, or on a house that is served sooner
  new_round_lem : (g : ℕ) (favourite : Option ℕ) (next : ℕ) → ((k : ℕ) → Asks m s w k → (0 < (s.house g).date) × ((s.house g).date ≤ (s.house k).date))
      → Falls m h n D s (with_worker s w (record { phase = looking (new_round s g); settled = (s.worker w).settled; favourite = favourite; next = next }))
  new_round_lem g favourite next sooner-than = worker_falls (record { phase = looking (new_round s g); settled = (s.worker w).settled; favourite = favourite; next = next })
      (λ k other o. inl (subst (λ (x : ℕ). Sooner D (s.house x).date) o.0 (before (λ e. other (sym o.0 ∙ e)))))
    where
      asked : Asks m s w h
      asked = record {
        is_open = record { known = q.known; left = omega (arith, q.number_is, q.posted) };
        dated = omega (arith, q.date_is, q.dated);
        unsettled = λ e. omega (arith, i.settled w h, q.unfiled, q.number_is);
      }

      before : (g ≡ h → ⊥) → Sooner D (s.house g).date
      before other =
          let c = sooner-than h asked in
          let apart : (s.house g).date ≡ (s.house h).date → ⊥ = λ e. other (i.distinct g h c.0 e) in
          (c.0, omega (arith, q.date_is))

  -- a turn after which the worker rests and the record of another house k is altered
  house_falls : (k : ℕ) (y : House) (x : Worker) (dates : ℕ) → (k ≡ h → ⊥) → x.phase ≡ resting
      → (filings s k < y.number → (Sooner D y.date → (y.number ≡ (s.house k).number) × Sooner D (s.house k).date) × ((v : ℕ) → On k y.number (s.worker v).phase → y.number ≡ (s.house k).number))
      → Falls m h n D s (with_dates (with_house (with_worker s w x) k y) dates)
  house_falls k y x dates apart rests less = falls_if t refl refl (ap (λ (z : House). z.number) at_h) (ap (λ (z : House). z.date) at_h) back
    where
      t : State
      t = with_dates (with_house (with_worker s w x) k y) dates

      at_h : put s.house k y h ≡ s.house h
      at_h = put_other s.house k y h apart

      -- rounds of other workers are as they were
      still_on : (g c v : ℕ) → On g c (put s.worker w x v).phase → On g c (s.worker v).phase
      still_on g c = put_all (λ v z. On g c z.phase → On g c (s.worker v).phase) s.worker w x (λ o. absurd (subst (On g c) rests o)) (λ v d o. o)

      served : (g : ℕ) (z : House) → filings s g < z.number → Sooner D z.date ⊎ ((v : ℕ) × (v < s.workers) × On g z.number (put s.worker w x v).phase)
          → (Sooner D z.date → (z.number ≡ (s.house g).number) × Sooner D (s.house g).date) × ((v : ℕ) → On g z.number (s.worker v).phase → z.number ≡ (s.house g).number)
          → (filings s g < (s.house g).number) × (Sooner D (s.house g).date ⊎ Busy s g)
      served g z l (inl so) f = let a = f.0 so in (omega (arith, a.0), inl a.1)
      served g z l (inr b) f =
          let o = still_on g z.number b.0 b.2 in
          let e = f.1 b.0 o in
          (omega (arith, e), inr (b.0, b.1, subst (λ (c : ℕ). On g c (s.worker b.0).phase) e o))

      back_at : (g : ℕ) → filings s g < (put s.house k y g).number
          → Sooner D (put s.house k y g).date ⊎ ((v : ℕ) × (v < s.workers) × On g (put s.house k y g).number (put s.worker w x v).phase)
          → (filings s g < (s.house g).number) × (Sooner D (s.house g).date ⊎ Busy s g)
      back_at = put_all (λ g z. filings s g < z.number → Sooner D z.date ⊎ ((v : ℕ) × (v < s.workers) × On g z.number (put s.worker w x v).phase)
          → (filings s g < (s.house g).number) × (Sooner D (s.house g).date ⊎ Busy s g)) s.house k y
          (λ l d. served k y l d (less l))
          (λ g d l so. served g (s.house g) l so ((λ z. (refl, z)), (λ v o. refl)))

      back : (g : ℕ) → Ahead t h D g → Ahead s h D g
      back g a = let b = back_at g a.unfiled a.served in record { other = a.other; unfiled = b.0; served = b.1 }

  -- a round that is not settling is behind its house
  on_behind : (k c v : ℕ) → On k c (s.worker v).phase → c ≤ (s.house k).number
  on_behind k c v o = go (s.worker v).phase (i.workers v) o
    where
      by_round : (r : Round) → RoundOk m s v r → (r.house ≡ k) × (r.number ≡ c) → c ≤ (s.house k).number
      by_round r b o = subst (λ (x : ℕ). c ≤ (s.house x).number) o.0 (omega (arith, b.behind, o.1))

      go : (p : Phase) → PhaseOk m s v p → On k c p → c ≤ (s.house k).number
      go resting b o = absurd o
      go (looking r) b o = by_round r b o
      go (drafted r d stale) b o = by_round r b.0 o
      go (settling r) b o = absurd o

  -- filing a draft: its house counted, and counts no more
  module _ (r : Round) (d : Outcome) (e : (s.worker w).phase ≡ drafted r d false) (full : r.place ≡ length s.journal) where
    K : List Posted
    K = filed_now s r d

    t : State
    t = with_journal (to_phase s w (settling r)) K

    ok : RoundOk m s w r
    ok = (phase_at m s i w (drafted r d false) e).0

    grows : Grows s.journal K
    unfolding K
    grows = grows_push s.journal (posted_for d r.house r.number)

    long : length K ≡ suc (length s.journal)
    unfolding K
    long = omega (arith, length_push s.journal (posted_for d r.house r.number))

    new_house_lem : (entry_at K (length s.journal)).house ≡ r.house
    unfolding K
    new_house_lem = ap (λ (x : Posted). x.house) (entry_push s.journal (posted_for d r.house r.number))

    now_filed : ℕ → ℕ
    now_filed g = entries_of K g (length K)

    one_more : now_filed r.house ≡ suc (filings s r.house)
    unfolding now_filed
    one_more = ap (entries_of K r.house) long ∙ entries_here K r.house (length s.journal) new_house_lem ∙ ap suc (entries_same grows r.house (length s.journal) (omega arith))

    no_more : (g : ℕ) → (r.house ≡ g → ⊥) → now_filed g ≡ filings s g
    unfolding now_filed
    no_more g f = ap (entries_of K g) long ∙ entries_else K g (length s.journal) (λ x. f (sym new_house_lem ∙ x)) ∙ entries_same grows g (length s.journal) (omega arith)

    count : suc (filings s r.house) ≡ r.number
    count = ap (λ (p : ℕ). suc (entries_of s.journal r.house p)) (sym full) ∙ ok.counted

    current : r.number ≡ (s.house r.house).number
    current = omega (arith, count, ok.behind, nearly r.house)

    still_on : (g c v : ℕ) → On g c (put s.worker w (in_phase (s.worker w) (settling r)) v).phase → On g c (s.worker v).phase
    still_on g c = put_all (λ v z. On g c z.phase → On g c (s.worker v).phase) s.worker w (in_phase (s.worker w) (settling r)) (λ o. absurd o) (λ v d o. o)

    back : (g : ℕ) → Ahead t h D g → Ahead s h D g
    unfolding t now_filed
    back g a = go (cases_eq r.house g)
      where
        served : Sooner D (s.house g).date ⊎ Busy t g → Sooner D (s.house g).date ⊎ Busy s g
        served (inl z) = inl z
        served (inr b) = inr (b.0, b.1, still_on g (s.house g).number b.0 b.2)

        go : (r.house ≡ g) ⊎ (r.house ≡ g → ⊥) → Ahead s h D g
        go (inl f) = record { other = a.other; unfiled = subst (λ (x : ℕ). filings s x < (s.house x).number) f (omega (arith, count, current)); served = served a.served }
        go (inr f) = record { other = a.other; unfiled = omega (arith, a.unfiled, no_more g f); served = served a.served }

    filing_falls : now_filed h < n → Falls m h n D s (with_journal (to_phase s w (settling r)) (filed_now s r d))
    unfolding t K now_filed houses_ahead
    filing_falls u = record {
      waits = record { known = q.known; first = q.first; posted = q.posted; dated = q.dated; number_is = q.number_is; date_is = q.date_is; unfiled = u };
      falls =
          let a : how_many (ahead t h D) s.houses < how_many (ahead s h D) s.houses =
          count_less (ahead t h D) (ahead s h D) s.houses r.house ok.known (λ g _ x. (ahead_says s h D g).1 (back g ((ahead_says t h D g).0 x)))
          (decides_false _ (ahead_says t h D r.house) (λ x. omega (arith, x.unfiled, one_more, count, current)))
          ((ahead_says s h D r.house).1 was_ahead) in
          omega (arith, long);
    }
      where
        apart : r.house ≡ h → ⊥
        apart f = omega (arith, subst (λ (g : ℕ). now_filed g ≡ suc (filings s g)) f one_more, nearly h, q.number_is, u)

        was_ahead : Ahead s h D r.house
        was_ahead = record {
          other = apart;
          unfiled = omega (arith, count, current);
          served = inr (w, lw, subst (On r.house (s.house r.house).number) (sym e) (refl, current));
        }

  -- what a turn comes to while the posting is still not filed
  step_falls : (a : Answer) (t : State) → Step m s w a t → filings t h < n → Falls m h n D s t
  unfolding now_filed K
  step_falls a t (helps g e asks) u = new_round_lem g (s.worker w).favourite (s.worker w).next (λ k c. (asks.asks.dated, asks.first k c))
  step_falls a t (returns g e none f) u = new_round_lem g _ _ (λ k c. absurd (none k c))
  step_falls a t (chooses g e none f next) u = new_round_lem g _ _ (λ k c. absurd (none k c))
  step_falls a t (idles e none f nobody) u = record { waits = q; falls = omega arith }
  step_falls a t (passes r e l away) u = same_round (in_phase (s.worker w) (looking (onward r))) (λ g c o. subst (On g c) (sym e) o)
  step_falls a t (finds r e here) u = same_round (in_phase (s.worker w) (settling r)) (λ g c o. absurd o)
  step_falls a t (drafts r e full) u = same_round (in_phase (s.worker w) (drafted r (draft_of m s r) false)) (λ g c o. subst (On g c) (sym e) o)
  step_falls a t (overtakes r d stale e l away) u = same_round (in_phase (s.worker w) (drafted (onward r) d _)) (λ g c o. subst (On g c) (sym e) o)
  step_falls a t (meets r d stale e here) u = same_round (in_phase (s.worker w) (settling r)) (λ g c o. absurd o)
  step_falls a t (files r d e full) u = filing_falls r d e full u
  step_falls a t (drops r d e full other) u = same_round (in_phase (s.worker w) resting) (λ g c o. absurd o)
  step_falls a t (fails r d e full mine undated patient) u =
      house_falls r.house (failing (s.house r.house)) (in_phase (s.worker w) resting) s.dates (apart r undated) refl
      (λ l. ((λ so. (refl, so)), (λ v o. refl)))
    where
      apart : (r : Round) → (s.house r.house).date ≡ 0 → r.house ≡ h → ⊥
      apart r z f = omega (arith, q.date_is, q.dated, z, ap (λ (x : ℕ). (s.house x).date) f)
  step_falls a t (calls r d e full mine undated impatient) u =
      house_falls r.house (calling (s.house r.house) (s.dates + 1)) (in_phase (s.worker w) resting) (s.dates + 1) (apart r undated) refl
      (λ l. ((λ so. absurd (omega (arith, so.1, i.dated h, q.date_is))), (λ v o. refl)))
    where
      apart : (r : Round) → (s.house r.house).date ≡ 0 → r.house ≡ h → ⊥
      apart r z f = omega (arith, q.date_is, q.dated, z, ap (λ (x : ℕ). (s.house x).date) f)
  step_falls a t (settles r e other) u = same_round (has_settled (s.worker w) r (s.worker w).favourite) (λ g c o. absurd o)
  step_falls a t (moves_on r favourite e mine l drop) u =
      house_falls r.house (moved_on (s.house r.house) (entry_at s.journal r.place).hand r.place) (has_settled (s.worker w) r favourite) s.dates apart refl
      (λ l. ((λ so. absurd (omega (arith, so.0))), (λ v o. absurd (omega (arith, on_behind r.house ((s.house r.house).number + 1) v o)))))
    where
      -- a posting that its keeper settles is filed
      apart : r.house ≡ h → ⊥
      apart f =
          let k = phase_at m s i w (settling r) e in
          omega (arith, settled_filed m s i w r k, k.current mine, q.unfiled, q.number_is, ap (λ (x : ℕ). (s.house x).number) f, ap (filings s) f)

-- the journal only grows, by one entry at the most
record Longer (s t : State) : Type 0 where
  grows : Grows s.journal t.journal
  one_at_most : length t.journal ≤ suc (length s.journal)

same_journal : (s : State) (t : State) → t.journal ≡ s.journal → Longer s t
same_journal s t e = record {
  grows = subst (Grows s.journal) (sym e) (grows_not s.journal);
  one_at_most = omega (arith, ap length e);
}

step_longer : (m : Meaning) (s : State) (w : ℕ) (a : Answer) (t : State) → Step m s w a t → Longer s t
step_longer m s w a t (helps g e asks) = same_journal s t refl
step_longer m s w a t (returns g e none f) = same_journal s t refl
step_longer m s w a t (chooses g e none f next) = same_journal s t refl
step_longer m s w a t (idles e none f nobody) = same_journal s t refl
step_longer m s w a t (passes r e l away) = same_journal s t refl
step_longer m s w a t (finds r e here) = same_journal s t refl
step_longer m s w a t (drafts r e full) = same_journal s t refl
step_longer m s w a t (overtakes r d stale e l away) = same_journal s t refl
step_longer m s w a t (meets r d stale e here) = same_journal s t refl
step_longer m s w a t (files r d e full) = record {
  grows = grows_push s.journal (posted_for d r.house r.number);
  one_at_most = omega (arith, length_push s.journal (posted_for d r.house r.number));
}
step_longer m s w a t (drops r d e full other) = same_journal s t refl
step_longer m s w a t (fails r d e full mine undated patient) = same_journal s t refl
step_longer m s w a t (calls r d e full mine undated impatient) = same_journal s t refl
step_longer m s w a t (settles r e other) = same_journal s t refl
step_longer m s w a t (moves_on r favourite e mine l drop) = same_journal s t refl

-- turns of workers that there are
abbrev pub AllBelow : ℕ → List ℕ → Type 0
AllBelow n [] = Unit {0}
AllBelow n (w ∷ ws) = (w < n) × AllBelow n ws

pub turns_grow : (m : Meaning) → Limits m → (s : State) → Sound m s → (ws : List ℕ) → Grows s.journal (after_turns m s ws).journal
unfolding after_turns
turns_grow m lim s i [] = grows_not s.journal
turns_grow m lim s i (w ∷ ws) =
    grows_then (step_longer m s w _ _ (turn_follows m lim s i w)).grows (turns_grow m lim (turn m s w).state (turn_kept m lim s i w) ws)

-- once the posting is filed, it is so before the limit
filed_first : (m : Meaning) → Limits m → (h n D : ℕ) (s : State) → Sound m s → Waits m h n D s → (w : ℕ) (ws : List ℕ) → n ≤ filings (turn m s w).state h
    → Within (after_turns m (turn m s w).state ws).journal h n (length s.journal)
filed_first m lim h n D s i q w ws filed k l out =
    let t = (turn m s w).state in
    let j = turn_kept m lim s i w in
    let x = stands_somewhere t.journal j.numbered h n q.first filed in
    let g = step_longer m s w _ _ (turn_follows m lim s i w) in
    let late : (x.0 < length s.journal) → ⊥ = λ b. stands_nowhere s.journal i.numbered h n q.unfiled x.0
    (b, ap (λ (e : Posted). e.house) (sym (g.grows.same x.0 b)) ∙ x.1.1, ap (λ (e : Posted). e.number) (sym (g.grows.same x.0 b)) ∙ x.1.2) in
    let before : x.0 < k → ⊥ = λ b. out x.0 b (stands_still (turns_grow m lim t j ws) x.0 h n x.1) in
    omega (arith, g.one_at_most, x.1.0)

-- however the turns go on
help_comes : (m : Meaning) → Limits m → (h n D : ℕ) (s : State) → Sound m s → Waits m h n D s → (ws : List ℕ) → AllBelow s.workers ws
    → Within (after_turns m s ws).journal h n (length s.journal + houses_ahead s h D)
unfolding after_turns
help_comes m lim h n D s i q [] below = λ k l out. omega arith
help_comes m lim h n D s i q (w ∷ ws) below = go (λ f. help_comes m lim h n D (turn m s w).state (turn_kept m lim s i w) f.waits ws below_still) (cases_lt (filings (turn m s w).state h) n)
  where
    below_still : AllBelow (turn m s w).state.workers ws
    below_still = subst (λ (x : ℕ). AllBelow x ws) (sym (turn_same m s w).workers) below.1

    go : ((f : Falls m h n D s (turn m s w).state) → Within (after_turns m (turn m s w).state ws).journal h n (length (turn m s w).state.journal + houses_ahead (turn m s w).state h D))
        → (filings (turn m s w).state h < n) ⊎ (n ≤ filings (turn m s w).state h)
        → Within (after_turns m (turn m s w).state ws).journal h n (length s.journal + houses_ahead s h D)
    go ih (inl u) k l out =
        let f = step_falls m lim h n D s i q w below.0 _ _ (turn_follows m lim s i w) u in
        omega (arith, f.falls, ih f k l out)
    go ih (inr filed) k l out = omega (arith, filed_first m lim h n D s i q w ws filed k l out)

-- a posting that calls waits from then on
pub record Called (m : Meaning) (s : State) (a : Answer) (t : State) : Type 0 where
  pub waits : Waits m (house_of a) (number_of a) (s.dates + 1) t
  pub journal : t.journal ≡ s.journal
  pub houses : t.houses ≡ s.houses

pub called : (m : Meaning) (s : State) → Sound m s → (w : ℕ) (a : Answer) (t : State) → Step m s w a t → kind_of a ≡ 7 → Called m s a t
called m s i w a t (helps g e asks) seven = absurd (omega arith)
called m s i w a t (returns g e none f) seven = absurd (omega arith)
called m s i w a t (chooses g e none f next) seven = absurd (omega arith)
called m s i w a t (idles e none f nobody) seven = absurd (omega arith)
called m s i w a t (passes r e l away) seven = absurd (omega arith)
called m s i w a t (finds r e here) seven = absurd (omega arith)
called m s i w a t (drafts r e full) seven = absurd (omega arith)
called m s i w a t (overtakes r d stale e l away) seven = absurd (omega arith)
called m s i w a t (meets r d stale e here) seven = absurd (omega arith)
called m s i w a t (files r d e full) seven = absurd (omega arith)
called m s i w a t (drops r d e full other) seven = absurd (omega arith)
called m s i w a t (fails r d e full mine undated patient) seven = absurd (omega arith)
called m s i w a t (calls r d e full mine undated impatient) seven = record {
  waits =
      let k = (phase_at m s i w (drafted r d true) e).0 in
      let here : put s.house r.house (calling (s.house r.house) (s.dates + 1)) r.house ≡ calling (s.house r.house) (s.dates + 1) =
      put_same s.house r.house (calling (s.house r.house) (s.dates + 1)) in
      record {
        known = k.known;
        first = omega (arith, k.counted);
        posted = k.posted;
        dated = omega arith;
        number_is = ap (λ (y : House). y.number) here ∙ sym (k.current mine);
        date_is = ap (λ (y : House). y.date) here;
        unfiled = omega (arith, k.counted, ap (entries_of s.journal r.house) full);
      };
  journal = refl;
  houses = refl;
}
called m s i w a t (settles r e other) seven = absurd (omega arith)
called m s i w a t (moves_on r favourite e mine l drop) seven = absurd (omega arith)

-- from the call on, at most one entry of each other house
pub help_in_time : (m : Meaning) → Limits m → (s : State) → Sound m s → (w : ℕ) → kind_of (turn m s w).answer ≡ 7 → (ws : List ℕ) → AllBelow s.workers ws
    → Within (after_turns m (turn m s w).state ws).journal (house_of (turn m s w).answer) (number_of (turn m s w).answer) (length s.journal + (s.houses - 1))
help_in_time m lim s i w seven ws below k l out =
    let t = (turn m s w).state in
    let c = called m s i w _ _ (turn_follows m lim s i w) seven in
    let few = ahead_few t (house_of (turn m s w).answer) (s.dates + 1) c.waits.known in
    omega (
      arith,
      help_comes m lim _ _ (s.dates + 1) t (turn_kept m lim s i w) c.waits ws (subst (λ (x : ℕ). AllBelow x ws) (sym (turn_same m s w).workers) below) k l out,
      ap length c.journal,
      c.houses,
    )
