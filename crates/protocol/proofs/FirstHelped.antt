-- A posting keeps its help date until its house moves on, and later dates are greater. While it is not in the journal it asks every
-- worker, so that none takes up a house with a greater date.
use Rattle.std.proofs.Common.{◌≡◌, ℕ, ◌+◌, ◌<◌, ◌≤◌, ◌⊎◌, List, [], ◌∷◌, ◌++◌, length, sym, refl, ap, ◌∙◌, subst, inl, inr, arith}
use Rattle.std.proofs.lemmas.Bool.{cases_lt}
use Rattle.posting.specs.Sources.{Meaning, Limits}
use Rattle.protocol.specs.Counting.{put}
use Rattle.protocol.specs.History.{entry_at, entries_of, Stands}
use Rattle.protocol.specs.State.{House, State}
use Rattle.protocol.specs.Serving.{Asks}
use Rattle.protocol.specs.Rules.{Answer, kind_of, house_of, number_of, failing, calling, moved_on, Step, helps, returns, chooses, idles, passes, finds, drafts, overtakes, meets, files, drops, fails, calls, settles, moves_on}
use Rattle.protocol.specs.Turn.{turn, after_turns}
use Rattle.protocol.specs.Working.{answer_after, FirstHelped}
use Rattle.protocol.proofs.Counts.{put_all}
use Rattle.protocol.proofs.Grown.{entries_up}
use Rattle.protocol.proofs.Sound.{Sound}
use Rattle.protocol.proofs.Once.{stands_somewhere}
use Rattle.protocol.proofs.Outcomes.{turn_follows, turn_kept}
use Rattle.protocol.proofs.Help.{called}
use Rattle.protocol.proofs.TurnsTaken.{turns_append, turns_kept}

-- posting n of house h was given the help date D
record Dated (m : Meaning) (h n D : ℕ) (s : State) : Type 0 where
  known : h < s.houses
  first : 1 ≤ n
  posted : n ≤ m.postings h
  some : 0 < D
  given : D ≤ s.dates
  passed : n ≤ (s.house h).number
  present : (s.house h).number ≡ n → (s.house h).date ≡ D

module _ (m : Meaning) (h n D : ℕ) (s : State) (w : ℕ) (q : Dated m h n D s) where
  -- no house is altered
  same_houses : (t : State) → t.house ≡ s.house → t.houses ≡ s.houses → s.dates ≤ t.dates → Dated m h n D t
  same_houses t e f l = record {
    known = subst (λ (x : ℕ). h < x) (sym f) q.known;
    first = q.first;
    posted = q.posted;
    some = q.some;
    given = omega (arith, q.given);
    passed = subst (λ (H : ℕ → House). n ≤ (H h).number) (sym e) q.passed;
    present = subst (λ (H : ℕ → House). (H h).number ≡ n → (H h).date ≡ D) (sym e) q.present;
  }

  -- one is: a house without a date, or one that moves on
  one_house : (t : State) (g : ℕ) (y : House) → t.house ≡ put s.house g y → t.houses ≡ s.houses → s.dates ≤ t.dates
      → ((y.number ≡ (s.house g).number) × ((s.house g).date ≡ 0)) ⊎ ((s.house g).number < y.number) → Dated m h n D t
  one_house t g y e f l why = record {
    known = subst (λ (x : ℕ). h < x) (sym f) q.known;
    first = q.first;
    posted = q.posted;
    some = q.some;
    given = omega (arith, q.given);
    passed = subst (λ (H : ℕ → House). n ≤ (H h).number) (sym e) at.0;
    present = subst (λ (H : ℕ → House). (H h).number ≡ n → (H h).date ≡ D) (sym e) at.1;
  }
    where
      here : g ≡ h → ((y.number ≡ (s.house g).number) × ((s.house g).date ≡ 0)) ⊎ ((s.house g).number < y.number)
          → (n ≤ y.number) × (y.number ≡ n → y.date ≡ D)
      here p (inl a) =
          let number : (s.house g).number ≡ (s.house h).number = ap (λ (x : ℕ). (s.house x).number) p in
          let date : (s.house g).date ≡ (s.house h).date = ap (λ (x : ℕ). (s.house x).date) p in
          (omega (arith, q.passed, a.0), λ z. absurd (omega (arith, q.present (omega (arith, a.0)), a.1, q.some)))
      here p (inr a) =
          let number : (s.house g).number ≡ (s.house h).number = ap (λ (x : ℕ). (s.house x).number) p in
          (omega (arith, q.passed), λ z. absurd (omega (arith, q.passed)))

      at : (n ≤ (put s.house g y h).number) × ((put s.house g y h).number ≡ n → (put s.house g y h).date ≡ D)
      at = put_all (λ k z. k ≡ h → (n ≤ z.number) × (z.number ≡ n → z.date ≡ D)) s.house g y (λ p. here p why)
          (λ k d p. subst (λ (x : ℕ). (n ≤ (s.house x).number) × ((s.house x).number ≡ n → (s.house x).date ≡ D)) (sym p) (q.passed, q.present)) h refl

  step_dated : (a : Answer) (t : State) → Step m s w a t → Dated m h n D t
  step_dated a t (helps g e asks) = same_houses t refl refl (omega arith)
  step_dated a t (returns g e none f) = same_houses t refl refl (omega arith)
  step_dated a t (chooses g e none f next) = same_houses t refl refl (omega arith)
  step_dated a t (idles e none f nobody) = q
  step_dated a t (passes r e l away) = same_houses t refl refl (omega arith)
  step_dated a t (finds r e here) = same_houses t refl refl (omega arith)
  step_dated a t (drafts r e full) = same_houses t refl refl (omega arith)
  step_dated a t (overtakes r d stale e l away) = same_houses t refl refl (omega arith)
  step_dated a t (meets r d stale e here) = same_houses t refl refl (omega arith)
  step_dated a t (files r d e full) = same_houses t refl refl (omega arith)
  step_dated a t (drops r d e full other) = same_houses t refl refl (omega arith)
  step_dated a t (fails r d e full mine undated patient) =
      one_house t r.house (failing (s.house r.house)) refl refl (omega arith) (inl (refl, undated))
  step_dated a t (calls r d e full mine undated impatient) =
      one_house t r.house (calling (s.house r.house) (s.dates + 1)) refl refl (omega arith) (inl (refl, undated))
  step_dated a t (settles r e other) = same_houses t refl refl (omega arith)
  step_dated a t (moves_on r favourite e mine l drop) =
      one_house t r.house (moved_on (s.house r.house) (entry_at s.journal r.place).hand r.place) refl refl (omega arith) (inr (omega arith))

turns_dated : (m : Meaning) → Limits m → (h n D : ℕ) (s : State) → Sound m s → Dated m h n D s → (ws : List ℕ) → Dated m h n D (after_turns m s ws)
unfolding after_turns
turns_dated m lim h n D s i q [] = q
turns_dated m lim h n D s i q (w ∷ ws) =
    turns_dated m lim h n D (turn m s w).state (turn_kept m lim s i w) (step_dated m h n D s w q _ _ (turn_follows m lim s i w)) ws

-- a call gives the date
call_dates : (m : Meaning) → Limits m → (s : State) → Sound m s → (w : ℕ) → kind_of (turn m s w).answer ≡ 7
    → Dated m (house_of (turn m s w).answer) (number_of (turn m s w).answer) (s.dates + 1) (turn m s w).state
call_dates m lim s i w seven =
    let c = (called m s i w _ _ (turn_follows m lim s i w) seven).waits in
    record {
      known = c.known;
      first = c.first;
      posted = c.posted;
      some = c.dated;
      given = omega (arith, (turn_kept m lim s i w).dated (house_of (turn m s w).answer), c.date_is);
      passed = omega (arith, c.number_is);
      present = λ _. c.date_is;
    }

-- what is taken up while a house asks
record Taken (m : Meaning) (s : State) (w : ℕ) (a : Answer) : Type 0 where
  number : number_of a ≡ (s.house (house_of a)).number
  sooner : (k : ℕ) → Asks m s w k → (s.house (house_of a)).date ≤ (s.house k).date

taking : (m : Meaning) (s : State) (w : ℕ) (a : Answer) (t : State) → Step m s w a t → kind_of a ≡ 1 → Taken m s w a
taking m s w a t (helps g e asks) one = record { number = refl; sooner = asks.first }
taking m s w a t (returns g e none f) one = record { number = refl; sooner = λ k x. absurd (none k x) }
taking m s w a t (chooses g e none f next) one = record { number = refl; sooner = λ k x. absurd (none k x) }
taking m s w a t (idles e none f nobody) one = absurd (omega arith)
taking m s w a t (passes r e l away) one = absurd (omega arith)
taking m s w a t (finds r e here) one = absurd (omega arith)
taking m s w a t (drafts r e full) one = absurd (omega arith)
taking m s w a t (overtakes r d stale e l away) one = absurd (omega arith)
taking m s w a t (meets r d stale e here) one = absurd (omega arith)
taking m s w a t (files r d e full) one = absurd (omega arith)
taking m s w a t (drops r d e full other) one = absurd (omega arith)
taking m s w a t (fails r d e full mine undated patient) one = absurd (omega arith)
taking m s w a t (calls r d e full mine undated impatient) one = absurd (omega arith)
taking m s w a t (settles r e other) one = absurd (omega arith)
taking m s w a t (moves_on r favourite e mine l drop) one = absurd (omega arith)

-- of two dated postings the one with the greater date is taken up: then the other is filed
first_filed : (m : Meaning) (s : State) → Sound m s → (w : ℕ) (a : Answer) → Taken m s w a → (h n D g k E : ℕ) → Dated m h n D s → Dated m g k E s
    → D < E → house_of a ≡ g → number_of a ≡ k → (p : ℕ) × Stands s.journal p h n
first_filed m s i w a b h n D g k E q z l eg ek = go (cases_lt (entries_of s.journal h (length s.journal)) n)
  where
    number : (s.house g).number ≡ k
    number = ap (λ (x : ℕ). (s.house x).number) (sym eg) ∙ sym b.number ∙ ek

    date : (s.house (house_of a)).date ≡ E
    date = ap (λ (x : ℕ). (s.house x).date) eg ∙ z.present number

    go : (entries_of s.journal h (length s.journal) < n) ⊎ (n ≤ entries_of s.journal h (length s.journal)) → (p : ℕ) × Stands s.journal p h n
    go (inr filed) = stands_somewhere s.journal i.numbered h n q.first filed
    go (inl unfiled) =
        let at : (s.house h).number ≡ n =
        omega (arith, q.passed, (i.houses h).counted, entries_up s.journal h (s.house h).start (length s.journal) (i.houses h).within) in
        let asks : Asks m s w h = record {
          is_open = record { known = q.known; left = omega (arith, q.posted) };
          dated = omega (arith, q.present at, q.some);
          unsettled = λ e. omega (arith, i.settled w h);
        } in
        absurd (omega (arith, b.sooner h asks, q.present at, date))

pub first_helped : (m : Meaning) → Limits m → (s : State) → Sound m s → (before : List ℕ) (w : ℕ) (between : List ℕ) (v : ℕ) (since : List ℕ) (u : ℕ)
    → FirstHelped (answer_after m s before w) (answer_after m s (before ++ (w ∷ between)) v)
    (answer_after m s (before ++ (w ∷ (between ++ (v ∷ since)))) u) (after_turns m s (before ++ (w ∷ (between ++ (v ∷ since))))).journal
unfolding after_turns
first_helped m lim s i before w between v since u = record {
  helped = λ seven seven' one eg ek.
      let q = call_dates m lim a ia w seven in
      let q-then = turns_dated m lim _ _ (a.dates + 1) (turn m a w).state (turn_kept m lim a ia w) q between in
      let q_there : Dated m _ _ (a.dates + 1) b = subst (Dated m _ _ (a.dates + 1)) (sym b_is) q-then in
      let q-after = step_dated m _ _ (a.dates + 1) b v q_there _ _ (turn_follows m lim b ib v) in
      let q-now = turns_dated m lim _ _ (a.dates + 1) (turn m b v).state (turn_kept m lim b ib v) q-after since in
      let z-now = turns_dated m lim _ _ (b.dates + 1) (turn m b v).state (turn_kept m lim b ib v) (call_dates m lim b ib v seven') since in
      first_filed m c ic u (turn m c u).answer (taking m c u _ _ (turn_follows m lim c ic u) one) _ _ (a.dates + 1) _ _ (b.dates + 1)
      (subst (Dated m _ _ (a.dates + 1)) (sym c_is) q-now) (subst (Dated m _ _ (b.dates + 1)) (sym c_is) z-now) (omega (arith, q_there.given)) eg ek;
}
  where
    a : State
    a = after_turns m s before

    b : State
    b = after_turns m s (before ++ (w ∷ between))

    c : State
    c = after_turns m s (before ++ (w ∷ (between ++ (v ∷ since))))

    ia : Sound m a
    ia = turns_kept m lim s i before

    ib : Sound m b
    ib = turns_kept m lim s i (before ++ (w ∷ between))

    ic : Sound m c
    ic = turns_kept m lim s i (before ++ (w ∷ (between ++ (v ∷ since))))

    b_is : b ≡ after_turns m (turn m a w).state between
    b_is = turns_append m s before (w ∷ between)

    c_is : c ≡ after_turns m (turn m b v).state since
    c_is =
        turns_append m s before (w ∷ (between ++ (v ∷ since))) ∙ turns_append m (turn m a w).state between (v ∷ since)
        ∙ ap (λ (x : State). after_turns m (turn m x v).state since) (sym b_is)
