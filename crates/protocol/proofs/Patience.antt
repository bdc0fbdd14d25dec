-- A house without a help date has counted its keeper's failed rounds on the present posting, and a house with one has had as many as
-- the patience; on postings to come there are none.
use Rattle.std.proofs.Common.{◌≡◌, ℕ, ◌+◌, ◌<◌, ◌≤◌, Bool, true, false, ◌&&◌, eqb, ◌⊎◌, List, [], ◌∷◌, sym, refl, ap, ◌∙◌, subst, inl, inr, arith}
use Rattle.std.proofs.lemmas.Bool.{cases_eq, eq-eqb, ne_eqb, and_from, and_left, and_right}
use Rattle.posting.specs.Sources.{Meaning, Limits}
use Rattle.protocol.specs.Counting.{one, put}
use Rattle.protocol.specs.History.{entry_at}
use Rattle.protocol.specs.State.{House, Round, drafted, State}
use Rattle.protocol.specs.Rules.{Answer, kind_of, house_of, number_of, failing, calling, moved_on, Step, helps, returns, chooses, idles, passes, finds, drafts, overtakes, meets, files, drops, fails, calls, settles, moves_on}
use Rattle.protocol.specs.Turn.{turn, after_turns}
use Rattle.protocol.specs.Patience.{keeper_fails, failures, CallsAtPatience}
use Rattle.protocol.proofs.Counts.{put_all}
use Rattle.protocol.proofs.Sound.{Sound, RoundOk, phase_at}
use Rattle.protocol.proofs.Outcomes.{turn_follows, turn_kept}
use Rattle.protocol.proofs.Unaltered.{Same, turn_same}

-- F h n: how many rounds of its keeper on posting n of house h have failed
record Counted (patience : ℕ) (H : ℕ → House) (F : ℕ → ℕ → ℕ) : Type 0 where
  none : (g n : ℕ) → (H g).number < n → F g n ≡ 0
  undated : (g : ℕ) → (H g).date ≡ 0 → (H g).failed ≡ F g (H g).number
  dated : (g : ℕ) → 0 < (H g).date → patience ≤ F g (H g).number

-- the same counts by another function
counted_by : (patience : ℕ) (H : ℕ → House) (F K : ℕ → ℕ → ℕ) → ((g n : ℕ) → K g n ≡ F g n) → Counted patience H F → Counted patience H K
counted_by patience H F K e c = record {
  none = λ g n l. e g n ∙ c.none g n l;
  undated = λ g z. c.undated g z ∙ sym (e g (H g).number);
  dated = λ g l. omega (arith, c.dated g l, e g (H g).number);
}

-- with this turn
abbrev and_now : State → ℕ → Answer → (ℕ → ℕ → ℕ) → ℕ → ℕ → ℕ
and_now s w a F g n = F g n + one (keeper_fails s w a g n)

module _ (m : Meaning) (s : State) (i : Sound m s) (w : ℕ) (F : ℕ → ℕ → ℕ) (c : Counted s.patience s.house F) where
  -- a turn of another kind
  no_failure : (t : State) (a : Answer) → ((g n : ℕ) → keeper_fails s w a g n ≡ false) → t.house ≡ s.house
      → Counted s.patience t.house (and_now s w a F)
  no_failure t a e same =
      subst (λ (H : ℕ → House). Counted s.patience H (and_now s w a F)) (sym same)
      (counted_by s.patience s.house F (and_now s w a F) (λ g n. omega (arith, ap one (e g n))) c)

  -- a failed round
  module _ (r : Round) (ok : RoundOk m s w r) where
    abbrev counts : ℕ → ℕ → Bool
    counts g n = eqb (s.keeper g) w && (eqb r.house g && eqb r.number n)

    counts_else : (g n : ℕ) → (r.house ≡ g → ⊥) → counts g n ≡ false
    counts_else g n e = and_right _ _ (and_left _ _ (ne_eqb r.house g e))

    counts_later : (g n : ℕ) → (s.house g).number < n → counts g n ≡ false
    counts_later g n l = go (cases_eq r.house g)
      where
        go : (r.house ≡ g) ⊎ (r.house ≡ g → ⊥) → counts g n ≡ false
        go (inl e) =
            and_right (eqb (s.keeper g) w) _ (and_right (eqb r.house g) _
            (ne_eqb r.number n (λ q. omega (arith, ok.behind, ap (λ (x : ℕ). (s.house x).number) e))))
        go (inr e) = counts_else g n e

    counts_here : s.keeper r.house ≡ w → counts r.house (s.house r.house).number ≡ true
    counts_here mine = and_from _ _ (eq-eqb _ _ mine) (and_from _ _ (eq-eqb _ _ refl) (eq-eqb _ _ (ok.current mine)))

    now : ℕ → ℕ → ℕ
    now g n = F g n + one (counts g n)

    none_later : (g n : ℕ) → (s.house g).number < n → now g n ≡ 0
    unfolding now
    none_later g n l = omega (arith, c.none g n l, ap one (counts_later g n l))

    -- the house alone is altered, and not its number
    failed_round : (y : House) → y.number ≡ (s.house r.house).number → s.keeper r.house ≡ w → (s.house r.house).date ≡ 0
        → y.failed ≡ (s.house r.house).failed + 1 → (0 < y.date → (s.house r.house).failed + 1 ≡ s.patience)
        → Counted s.patience (put s.house r.house y) (λ g n. F g n + one (counts g n))
    unfolding now
    failed_round y en mine undated ef call = record {
      none = put_all (λ g z. (n : ℕ) → z.number < n → now g n ≡ 0) s.house r.house y
          (λ n l. none_later r.house n (omega (arith, en))) (λ g e n l. none_later g n l);
      undated = put_all (λ g z. z.date ≡ 0 → z.failed ≡ now g z.number) s.house r.house y
          (λ z. ef ∙ one_more ∙ ap (now r.house) (sym en))
          (λ g e z. omega (arith, c.undated g z, ap one (counts_else g (s.house g).number e)));
      dated = put_all (λ g z. 0 < z.date → s.patience ≤ now g z.number) s.house r.house y
          (λ l. omega (arith, call l, one_more, ap (now r.house) en))
          (λ g e l. omega (arith, c.dated g l));
    }
      where
        one_more : (s.house r.house).failed + 1 ≡ now r.house (s.house r.house).number
        one_more = omega (arith, c.undated r.house undated, ap one (counts_here mine))

    -- a round that does not count for its house
    dropped_round : (s.keeper r.house ≡ w → (s.house r.house).date ≡ 0 → ⊥)
        → Counted s.patience s.house (λ g n. F g n + one (counts g n))
    unfolding now
    dropped_round other = record {
      none = none_later;
      undated = λ g z. omega (arith, c.undated g z, ap one (uncounted g z (cases_eq r.house g)));
      dated = λ g l. omega (arith, c.dated g l);
    }
      where
        uncounted : (g : ℕ) → (s.house g).date ≡ 0 → (r.house ≡ g) ⊎ (r.house ≡ g → ⊥) → counts g (s.house g).number ≡ false
        uncounted g z (inl e) =
            and_left _ _ (ne_eqb (s.keeper g) w (λ k. other (ap s.keeper e ∙ k) (ap (λ (x : ℕ). (s.house x).date) e ∙ z)))
        uncounted g z (inr e) = counts_else g (s.house g).number e

  step_counts : (a : Answer) (t : State) → Step m s w a t → Counted s.patience t.house (and_now s w a F)
  step_counts a t (helps g e asks) = no_failure t a (λ g n. refl) refl
  step_counts a t (returns g e none f) = no_failure t a (λ g n. refl) refl
  step_counts a t (chooses g e none f next) = no_failure t a (λ g n. refl) refl
  step_counts a t (idles e none f nobody) = no_failure t a (λ g n. refl) refl
  step_counts a t (passes r e l away) = no_failure t a (λ g n. refl) refl
  step_counts a t (finds r e here) = no_failure t a (λ g n. refl) refl
  step_counts a t (drafts r e full) = no_failure t a (λ g n. refl) refl
  step_counts a t (overtakes r d stale e l away) = no_failure t a (λ g n. refl) refl
  step_counts a t (meets r d stale e here) = no_failure t a (λ g n. refl) refl
  step_counts a t (files r d e full) = no_failure t a (λ g n. refl) refl
  step_counts a t (drops r d e full other) = dropped_round r (phase_at m s i w (drafted r d true) e).0 other
  step_counts a t (fails r d e full mine undated patient) =
      failed_round r (phase_at m s i w (drafted r d true) e).0 (failing (s.house r.house)) refl mine undated refl (λ l. absurd (omega (arith, undated)))
  step_counts a t (calls r d e full mine undated impatient) =
      failed_round r (phase_at m s i w (drafted r d true) e).0 (calling (s.house r.house) (s.dates + 1)) refl mine undated refl (λ l. impatient)
  step_counts a t (settles r e other) = no_failure t a (λ g n. refl) refl
  step_counts a t (moves_on r favourite e mine l drop) =
      counted_by s.patience t.house F (and_now s w a F) (λ g n. omega arith)
      (record {
        none = put_all (λ g z. (n : ℕ) → z.number < n → F g n ≡ 0) s.house r.house y (λ n l. c.none r.house n (omega arith)) (λ g e n l. c.none g n l);
        undated = put_all (λ g z. z.date ≡ 0 → z.failed ≡ F g z.number) s.house r.house y
            (λ z. sym (c.none r.house ((s.house r.house).number + 1) (omega arith))) (λ g e z. c.undated g z);
        dated = put_all (λ g z. 0 < z.date → s.patience ≤ F g z.number) s.house r.house y (λ l. absurd (omega arith)) (λ g e l. c.dated g l);
      })
    where
      y : House
      y = moved_on (s.house r.house) (entry_at s.journal r.place).hand r.place

  -- what the answer says
  abbrev Told : Answer → Type 0
  Told a =
      (kind_of a ≡ 7 → (s.keeper (house_of a) ≡ w) × (F (house_of a) (number_of a) + 1 ≡ s.patience))
      × (kind_of a ≡ 6 → s.keeper (house_of a) ≡ w → F (house_of a) (number_of a) + 1 ≡ s.patience → ⊥)

  -- a keeper's round is on the present posting
  count_of : (r : Round) → RoundOk m s w r → s.keeper r.house ≡ w → F r.house r.number ≡ F r.house (s.house r.house).number
  count_of r ok mine = ap (F r.house) (ok.current mine)

  step_told : (a : Answer) (t : State) → Step m s w a t → Told a
  step_told a t (helps g e asks) = (λ k. absurd (omega arith), λ k. absurd (omega arith))
  step_told a t (returns g e none f) = (λ k. absurd (omega arith), λ k. absurd (omega arith))
  step_told a t (chooses g e none f next) = (λ k. absurd (omega arith), λ k. absurd (omega arith))
  step_told a t (idles e none f nobody) = (λ k. absurd (omega arith), λ k. absurd (omega arith))
  step_told a t (passes r e l away) = (λ k. absurd (omega arith), λ k. absurd (omega arith))
  step_told a t (finds r e here) = (λ k. absurd (omega arith), λ k. absurd (omega arith))
  step_told a t (drafts r e full) = (λ k. absurd (omega arith), λ k. absurd (omega arith))
  step_told a t (overtakes r d stale e l away) = (λ k. absurd (omega arith), λ k. absurd (omega arith))
  step_told a t (meets r d stale e here) = (λ k. absurd (omega arith), λ k. absurd (omega arith))
  step_told a t (files r d e full) = (λ k. absurd (omega arith), λ k. absurd (omega arith))
  step_told a t (drops r d e full other) = (λ k. absurd (omega arith), λ k mine q. go mine q (cases_eq (s.house r.house).date 0))
    where
      go : s.keeper r.house ≡ w → F r.house r.number + 1 ≡ s.patience
          → ((s.house r.house).date ≡ 0) ⊎ ((s.house r.house).date ≡ 0 → ⊥) → ⊥
      go mine q (inl z) = other mine z
      go mine q (inr z) = omega (arith, c.dated r.house (omega arith), count_of r (phase_at m s i w (drafted r d true) e).0 mine)
  step_told a t (fails r d e full mine undated patient) = (
    λ k. absurd (omega arith),
    λ k mine q. omega (arith, c.undated r.house undated, count_of r (phase_at m s i w (drafted r d true) e).0 mine),
  )
  step_told a t (calls r d e full mine undated impatient) = (
    λ k. (mine, omega (arith, c.undated r.house undated, count_of r (phase_at m s i w (drafted r d true) e).0 mine)),
    λ k. absurd (omega arith),
  )
  step_told a t (settles r e other) = (λ k. absurd (omega arith), λ k. absurd (omega arith))
  step_told a t (moves_on r favourite e mine l drop) = (λ k. absurd (omega arith), λ k. absurd (omega arith))

-- after a list of turns
turns_counted : (m : Meaning) → Limits m → (s : State) → Sound m s → (F : ℕ → ℕ → ℕ) → Counted s.patience s.house F → (ws : List ℕ)
    → Counted s.patience (after_turns m s ws).house (λ g n. F g n + failures m s ws g n)
unfolding after_turns failures
turns_counted m lim s i F c [] = counted_by s.patience s.house F (λ g n. F g n + 0) (λ g n. omega arith) c
turns_counted m lim s i F c (w ∷ ws) =
    let t = (turn m s w).state in
    let a = (turn m s w).answer in
    let e : t.patience ≡ s.patience = (turn_same m s w).patience in
    let now : Counted s.patience t.house (and_now s w a F) = step_counts m s i w F c a t (turn_follows m lim s i w) in
    let rest = turns_counted m lim t (turn_kept m lim s i w) (and_now s w a F) (subst (λ (p : ℕ). Counted p t.house (and_now s w a F)) (sym e) now) ws in
    counted_by s.patience (after_turns m t ws).house (λ g n. and_now s w a F g n + failures m t ws g n) (λ g n. F g n + (one (keeper_fails s w a g n) + failures m t ws g n))
    (λ g n. omega arith) (subst (λ (p : ℕ). Counted p (after_turns m t ws).house (λ g n. and_now s w a F g n + failures m t ws g n)) e rest)

-- a state in which no round has failed
pub calls_at_patience : (m : Meaning) → Limits m → (s : State) → Sound m s → ((g : ℕ) → ((s.house g).failed ≡ 0) × ((s.house g).date ≡ 0))
    → (before : List ℕ) → Same s (after_turns m s before) → Sound m (after_turns m s before)
    → (w : ℕ) → CallsAtPatience m s before w (turn m (after_turns m s before) w).answer
calls_at_patience m lim s i new before same j w = record {
  only_then = λ k. let x = now.0 k in (sym (keepers (house_of a)) ∙ x.0, x.1 ∙ same.patience);
  always_then = λ k mine q. now.1 k (keepers (house_of a) ∙ mine) (q ∙ sym same.patience);
}
  where
    t : State
    t = after_turns m s before

    a : Answer
    a = (turn m t w).answer

    keepers : (h : ℕ) → t.keeper h ≡ s.keeper h
    keepers h = ap (λ (f : ℕ → ℕ). f h) same.keeper

    first : Counted s.patience s.house (λ g n. 0)
    first = record { none = λ g n l. refl; undated = λ g z. (new g).0; dated = λ g l. absurd (omega (arith, (new g).1)) }

    counted : Counted t.patience t.house (failures m s before)
    counted =
        subst (λ (p : ℕ). Counted p t.house (failures m s before)) (sym same.patience)
        (counted_by s.patience t.house (λ g n. 0 + failures m s before g n) (failures m s before) (λ g n. omega arith)
        (turns_counted m lim s i (λ g n. 0) first before))

    now : Told m t j w (failures m s before) counted a
    now = step_told m t j w (failures m s before) counted a (turn m t w).state (turn_follows m lim t j w)
