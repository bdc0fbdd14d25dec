-- The number of a worker's round is above the last that it settled for the house, and so is the present number of a house that it keeps.
use Rattle.std.proofs.Common.{◌≡◌, ℕ, ◌+◌, ◌<◌, ◌≤◌, false, ◌⊎◌, List, [], ◌∷◌, ◌++◌, Option, sym, refl, ap, ◌∙◌, subst, inl, inr, arith}
use Rattle.std.proofs.lemmas.Bool.{cases_eq}
use Rattle.posting.specs.Sources.{Meaning, Limits}
use Rattle.protocol.specs.Counting.{put}
use Rattle.protocol.specs.History.{entry_at}
use Rattle.protocol.specs.State.{House, Round, Phase, resting, looking, drafted, settling, Worker, State, in_phase}
use Rattle.protocol.specs.Rules.{Answer, kind_of, house_of, number_of, told, new_round, taken_up, onward, draft_of, failing, calling, moved_on, has_settled, Step, helps, returns, chooses, idles, passes, finds, drafts, overtakes, meets, files, drops, fails, calls, settles, moves_on}
use Rattle.protocol.specs.Turn.{turn, after_turns}
use Rattle.protocol.specs.Working.{NothingToDo, Onwards}
use Rattle.protocol.proofs.Counts.{put_same, put_other, put_all}
use Rattle.protocol.proofs.Sound.{Sound, phase_at}
use Rattle.protocol.proofs.Outcomes.{turn_follows, turn_kept}
use Rattle.protocol.proofs.TurnsTaken.{turns_append, turns_kept}

idle_says : (m : Meaning) (s : State) (w : ℕ) (a : Answer) (t : State) → Step m s w a t → kind_of a ≡ 0 → NothingToDo m s w
idle_says m s w a t (helps g e asks) z = absurd (omega arith)
idle_says m s w a t (returns g e none f) z = absurd (omega arith)
idle_says m s w a t (chooses g e none f next) z = absurd (omega arith)
idle_says m s w a t (idles e none f nobody) z = record { rests = e; none_asks = none; none_kept = nobody }
idle_says m s w a t (passes r e l away) z = absurd (omega arith)
idle_says m s w a t (finds r e here) z = absurd (omega arith)
idle_says m s w a t (drafts r e full) z = absurd (omega arith)
idle_says m s w a t (overtakes r d stale e l away) z = absurd (omega arith)
idle_says m s w a t (meets r d stale e here) z = absurd (omega arith)
idle_says m s w a t (files r d e full) z = absurd (omega arith)
idle_says m s w a t (drops r d e full other) z = absurd (omega arith)
idle_says m s w a t (fails r d e full mine undated patient) z = absurd (omega arith)
idle_says m s w a t (calls r d e full mine undated impatient) z = absurd (omega arith)
idle_says m s w a t (settles r e other) z = absurd (omega arith)
idle_says m s w a t (moves_on r favourite e mine l drop) z = absurd (omega arith)

pub nothing_to_do : (m : Meaning) → Limits m → (s : State) → Sound m s → (w : ℕ) → kind_of (turn m s w).answer ≡ 0 → NothingToDo m s w
nothing_to_do m lim s i w z = idle_says m s w _ _ (turn_follows m lim s i w) z

-- the round of this phase is on a later posting of its house than these
abbrev pub Above : (ℕ → ℕ) → Phase → Type 0
Above settled resting = Unit {0}
Above settled (looking r) = settled r.house < r.number
Above settled (drafted r d stale) = settled r.house < r.number
Above settled (settling r) = settled r.house < r.number

pub record Rising (s : State) : Type 0 where
  pub rounds : (v : ℕ) → Above (s.worker v).settled (s.worker v).phase
  pub kept : (v g : ℕ) → s.keeper g ≡ v → (s.worker v).settled g < (s.house g).number

-- what a turn does to the settled numbers
pub record Rises (s : State) (w : ℕ) (a : Answer) (t : State) : Type 0 where
  pub rising : Rising t
  up : (v g : ℕ) → (s.worker v).settled g ≤ (t.worker v).settled g
  noted : kind_of a ≡ 8 → number_of a ≤ (t.worker w).settled (house_of a)
  taken : kind_of a ≡ 1 → (s.worker w).settled (house_of a) < number_of a

module _ (m : Meaning) (s : State) (i : Sound m s) (w : ℕ) (j : Rising s) where
  pub above_at : (p : Phase) → (s.worker w).phase ≡ p → Above (s.worker w).settled p
  above_at p e = subst (Above (s.worker w).settled) e (j.rounds w)

  -- a turn that settles nothing
  unsettled : (x : Worker) (a : Answer) (t : State) → t.worker ≡ put s.worker w x → t.keeper ≡ s.keeper
      → ((g : ℕ) → (t.house g).number ≡ (s.house g).number) → x.settled ≡ (s.worker w).settled → Above (s.worker w).settled x.phase
      → (kind_of a ≡ 8 → ⊥) → (kind_of a ≡ 1 → (s.worker w).settled (house_of a) < number_of a) → Rises s w a t
  unsettled x a t ew ek en es above other taken = record {
    rising = record {
      rounds = λ v. subst (λ (f : ℕ → Worker). Above (f v).settled (f v).phase) (sym ew)
          (put_all (λ v z. Above z.settled z.phase) s.worker w x (subst (λ (f : ℕ → ℕ). Above f x.phase) (sym es) above) (λ v n. j.rounds v) v);
      kept = λ v g q. let k = j.kept v g (ap (λ (f : ℕ → ℕ). f g) (sym ek) ∙ q) in omega (arith, same v g, en g);
    };
    up = λ v g. omega (arith, same v g);
    noted = λ k. absurd (other k);
    taken = taken;
  }
    where
      same : (v g : ℕ) → (t.worker v).settled g ≡ (s.worker v).settled g
      same v g = subst (λ (f : ℕ → Worker). (f v).settled g ≡ (s.worker v).settled g) (sym ew)
          (put_all (λ v z. z.settled g ≡ (s.worker v).settled g) s.worker w x (ap (λ (f : ℕ → ℕ). f g) es) (λ v n. refl) v)

  -- a turn that settles
  module _ (r : Round) (favourite : Option ℕ) (e : (s.worker w).phase ≡ settling r) where
    x : Worker
    x = has_settled (s.worker w) r favourite

    up_at : (v g : ℕ) → (s.worker v).settled g ≤ (put s.worker w x v).settled g
    unfolding x
    up_at v g = put_all (λ v z. (s.worker v).settled g ≤ z.settled g) s.worker w x
        (put_all (λ g n. (s.worker w).settled g ≤ n) (s.worker w).settled r.house r.number (omega (arith, above_at (settling r) e)) (λ g n. omega arith) g)
        (λ v n. omega arith) v

    settled_rises : (a : Answer) (t : State) → t.worker ≡ put s.worker w (has_settled (s.worker w) r favourite)
        → ((v g : ℕ) → t.keeper g ≡ v → (put s.worker w (has_settled (s.worker w) r favourite) v).settled g < (t.house g).number)
        → house_of a ≡ r.house → number_of a ≡ r.number → (kind_of a ≡ 1 → ⊥) → Rises s w a t
    unfolding x
    settled_rises a t ew below eh en other = record {
      rising = record {
        rounds = λ v. subst (λ (f : ℕ → Worker). Above (f v).settled (f v).phase) (sym ew)
            (put_all (λ v z. Above z.settled z.phase) s.worker w x tt (λ v n. j.rounds v) v);
        kept = λ v g q. subst (λ (f : ℕ → Worker). (f v).settled g < (t.house g).number) (sym ew) (below v g q);
      };
      up = λ v g. subst (λ (f : ℕ → Worker). (s.worker v).settled g ≤ (f v).settled g) (sym ew) (up_at v g);
      noted = λ k. omega (arith, en, here);
      taken = λ k. absurd (other k);
    }
      where
        here : (t.worker w).settled (house_of a) ≡ r.number
        here =
            ap (λ (f : ℕ → Worker). (f w).settled (house_of a)) ew ∙ ap (λ (z : Worker). z.settled (house_of a)) (put_same s.worker w x)
            ∙ ap (put (s.worker w).settled r.house r.number) eh ∙ put_same (s.worker w).settled r.house r.number

  -- the posting of a house that asks is above the last that it settled
  asks_above : (g : ℕ) → ((s.worker w).settled g ≡ (s.house g).number → ⊥) → (s.worker w).settled g < (s.house g).number
  asks_above g n = omega (arith, n, i.settled w g, (i.houses g).entered)

  number_kept : (h : ℕ) (y : House) → y.number ≡ (s.house h).number → (g : ℕ) → (put s.house h y g).number ≡ (s.house g).number
  number_kept h y e = put_all (λ g z. z.number ≡ (s.house g).number) s.house h y e (λ g n. refl)

  -- a new round
  takes_up_lem : (g : ℕ) (favourite : Option ℕ) (next : ℕ) → (s.worker w).settled g < (s.house g).number
      → Rises s w (told 1 (new_round s g)) (taken_up s w g favourite next)
  takes_up_lem g favourite next l =
      unsettled (record { phase = looking (new_round s g); settled = (s.worker w).settled; favourite = favourite; next = next })
      (told 1 (new_round s g)) (taken_up s w g favourite next) refl refl (λ g. refl) refl l (λ k. omega arith) (λ k. l)

  -- the worker goes on with its round, or ends it
  goes_on : (p : Phase) (a : Answer) (t : State) → t.worker ≡ put s.worker w (in_phase (s.worker w) p) → t.keeper ≡ s.keeper
      → ((g : ℕ) → (t.house g).number ≡ (s.house g).number) → Above (s.worker w).settled p → 1 < kind_of a → kind_of a < 8 → Rises s w a t
  goes_on p a t ew ek en above low high =
      unsettled (in_phase (s.worker w) p) a t ew ek en refl above (λ k. omega arith) (λ k. absurd (omega arith))

  step_rises : (a : Answer) (t : State) → Step m s w a t → Rises s w a t
  step_rises a t (helps g e asks) = takes_up_lem g (s.worker w).favourite (s.worker w).next (asks_above g asks.asks.unsettled)
  step_rises a t (returns g e none f) = takes_up_lem g _ _ (j.kept w g ((i.fond w).keeps g f).keeper)
  step_rises a t (chooses g e none f next) = takes_up_lem g _ _ (j.kept w g next.keeps.keeper)
  step_rises a t (idles e none f nobody) = record { rising = j; up = λ v g. omega arith; noted = λ k. absurd (omega arith); taken = λ k. absurd (omega arith) }
  step_rises a t (passes r e l away) = goes_on (looking (onward r)) a t refl refl (λ g. refl) (above_at (looking r) e) (omega arith) (omega arith)
  step_rises a t (finds r e here) = goes_on (settling r) a t refl refl (λ g. refl) (above_at (looking r) e) (omega arith) (omega arith)
  step_rises a t (drafts r e full) = goes_on (drafted r (draft_of m s r) false) a t refl refl (λ g. refl) (above_at (looking r) e) (omega arith) (omega arith)
  step_rises a t (overtakes r d stale e l away) =
      goes_on (drafted (onward r) d _) a t refl refl (λ g. refl) (above_at (drafted r d stale) e) (omega arith) (omega arith)
  step_rises a t (meets r d stale e here) = goes_on (settling r) a t refl refl (λ g. refl) (above_at (drafted r d stale) e) (omega arith) (omega arith)
  step_rises a t (files r d e full) = goes_on (settling r) a t refl refl (λ g. refl) (above_at (drafted r d false) e) (omega arith) (omega arith)
  step_rises a t (drops r d e full other) = goes_on resting a t refl refl (λ g. refl) tt (omega arith) (omega arith)
  step_rises a t (fails r d e full mine undated patient) =
      goes_on resting a t refl refl (number_kept r.house (failing (s.house r.house)) refl) tt (omega arith) (omega arith)
  step_rises a t (calls r d e full mine undated impatient) =
      goes_on resting a t refl refl (number_kept r.house (calling (s.house r.house) (s.dates + 1)) refl) tt (omega arith) (omega arith)
  step_rises a t (settles r e other) = settled_rises r (s.worker w).favourite e a t refl below refl refl (λ k. omega arith)
    where
      -- a house that it keeps is another one
      below : (v g : ℕ) → s.keeper g ≡ v → (put s.worker w (has_settled (s.worker w) r (s.worker w).favourite) v).settled g < (s.house g).number
      below v g = put_all (λ v z. s.keeper g ≡ v → z.settled g < (s.house g).number) s.worker w (has_settled (s.worker w) r (s.worker w).favourite)
          (λ q. subst (λ (n : ℕ). n < (s.house g).number)
          (sym (put_other (s.worker w).settled r.house r.number g (λ f. other (ap s.keeper f ∙ q)))) (j.kept w g q))
          (λ v n q. j.kept v g q) v
  step_rises a t (moves_on r favourite e mine l drop) = settled_rises r favourite e a t refl (λ v g. below v g) refl refl (λ k. omega arith)
    where
      y : House
      y = moved_on (s.house r.house) (entry_at s.journal r.place).hand r.place

      up : (g : ℕ) → (s.house g).number ≤ (put s.house r.house y g).number
      up = put_all (λ g z. (s.house g).number ≤ z.number) s.house r.house y (omega arith) (λ g n. omega arith)

      -- the number that it settled is the house's, which moves on
      own : (g : ℕ) → s.keeper g ≡ w → put (s.worker w).settled r.house r.number g < (put s.house r.house y g).number
      own g q = go (cases_eq r.house g)
        where
          go : (r.house ≡ g) ⊎ (r.house ≡ g → ⊥) → put (s.worker w).settled r.house r.number g < (put s.house r.house y g).number
          go (inl f) = subst (λ (g : ℕ). put (s.worker w).settled r.house r.number g < (put s.house r.house y g).number) f
              (omega (
                arith,
                put_same (s.worker w).settled r.house r.number,
                ap (λ (z : House). z.number) (put_same s.house r.house y),
                (phase_at m s i w (settling r) e).current mine,
              ))
          go (inr f) = omega (arith, put_other (s.worker w).settled r.house r.number g f, j.kept w g q, up g)

      below : (v g : ℕ) → s.keeper g ≡ v → (put s.worker w (has_settled (s.worker w) r favourite) v).settled g < (put s.house r.house y g).number
      below v g = put_all (λ v z. s.keeper g ≡ v → z.settled g < (put s.house r.house y g).number) s.worker w (has_settled (s.worker w) r favourite)
          (own g) (λ v n q. omega (arith, j.kept v g q, up g)) v

pub turn_rises : (m : Meaning) → Limits m → (s : State) → Sound m s → (w : ℕ) → Rising s → Rises s w (turn m s w).answer (turn m s w).state
turn_rises m lim s i w j = step_rises m s i w j _ _ (turn_follows m lim s i w)

pub turns_rising : (m : Meaning) → Limits m → (s : State) → Sound m s → Rising s → (ws : List ℕ) → Rising (after_turns m s ws)
unfolding after_turns
turns_rising m lim s i j [] = j
turns_rising m lim s i j (w ∷ ws) = turns_rising m lim (turn m s w).state (turn_kept m lim s i w) (turn_rises m lim s i w j).rising ws

turns_up : (m : Meaning) → Limits m → (s : State) → Sound m s → Rising s → (ws : List ℕ) (v g : ℕ)
    → (s.worker v).settled g ≤ ((after_turns m s ws).worker v).settled g
unfolding after_turns
turns_up m lim s i j [] v g = omega arith
turns_up m lim s i j (w ∷ ws) v g =
    let r = turn_rises m lim s i w j in
    omega (arith, r.up v g, turns_up m lim (turn m s w).state (turn_kept m lim s i w) r.rising ws v g)

pub settled_onwards : (m : Meaning) → Limits m → (s : State) → Sound m s → Rising s → (before : List ℕ) (w : ℕ) (between : List ℕ)
    → Onwards (turn m (after_turns m s before) w).answer (turn m (after_turns m s (before ++ (w ∷ between))) w).answer
unfolding after_turns
settled_onwards m lim s i j before w between = record {
  onwards = λ eight one same.
      omega (
        arith,
        first.noted eight,
        turns_up m lim t (turn_kept m lim u iu w) first.rising between w (house_of (turn m u w).answer),
        ap (λ (x : State). (x.worker w).settled (house_of (turn m u w).answer)) (turns_append m s before (w ∷ between)),
        ap ((after_turns m s (before ++ (w ∷ between))).worker w).settled same,
        second.taken one,
      );
}
  where
    u : State
    u = after_turns m s before

    iu : Sound m u
    iu = turns_kept m lim s i before

    t : State
    t = (turn m u w).state

    first : Rises u w (turn m u w).answer t
    first = turn_rises m lim u iu w (turns_rising m lim s i j before)

    second : Rises (after_turns m s (before ++ (w ∷ between))) w (turn m (after_turns m s (before ++ (w ∷ between))) w).answer (turn m (after_turns m s (before ++ (w ∷ between))) w).state
    second = turn_rises m lim _ (turns_kept m lim s i (before ++ (w ∷ between))) w (turns_rising m lim s i j (before ++ (w ∷ between)))
