-- A worker alone: every turn that is not idle lowers one number. It counts the postings left in the houses that the worker keeps and the other houses
-- whose present posting it has not settled, one more for a round that may come to nothing, and then the turns left in its round.
use Rattle.std.proofs.Common.{◌≡◌, ℕ, zero, suc, ◌+◌, ◌-◌, ◌*◌, ◌<◌, ◌≤◌, Bool, true, false, cond, not, ◌||◌, eqb, ltb, ◌⊎◌, length, replicate, Option, sym, refl, ap, ◌∙◌, subst, inl, inr, arith}
use Rattle.std.proofs.lemmas.Bool.{cases_eq, eq-eqb, ne_eqb, lt-ltb, le-ltb}
use Rattle.posting.specs.Alone.{Outcome}
use Rattle.posting.specs.Sources.{Meaning, Limits}
use Rattle.protocol.specs.Counting.{one, sum_below, put}
use Rattle.protocol.specs.History.{entry_at, touches}
use Rattle.protocol.specs.State.{House, Round, Phase, resting, looking, drafted, settling, Worker, State, in_phase}
use Rattle.protocol.specs.Rules.{Answer, kind_of, new_round, onward, taken_up, draft_of, failing, calling, moved_on, has_settled, Step, helps, returns, chooses, idles, passes, finds, drafts, overtakes, meets, files, drops, fails, calls, settles, moves_on}
use Rattle.protocol.specs.Turn.{turn, after_turns}
use Rattle.protocol.specs.Working.{NothingToDo}
use Rattle.protocol.proofs.Counts.{one_le, sum_le, sum_less, sum_most, put_same, put_other, put_all}
use Rattle.protocol.proofs.Sound.{Sound, SettlingOk, phase_at}
use Rattle.protocol.proofs.Once.{fits}
use Rattle.protocol.proofs.Outcomes.{turn_follows, turn_kept}
use Rattle.protocol.proofs.Working.{nothing_to_do, Rising, above_at, turn_rises}

-- rounds left in a house with so many postings and this keeper, present number and last settled number
to_go : ℕ → ℕ → ℕ → ℕ → ℕ → ℕ
to_go postings w keeper number settled = cond (eqb keeper w) (suc postings - number) (one (not (eqb settled number)))

-- its keeper moves it on
go_kept : (p w k n x y : ℕ) → k ≡ w → n ≤ p → to_go p w k (n + 1) y < to_go p w k n x
unfolding to_go
go_kept p w k n x y e l =
    let a : cond (eqb k w) (suc p - (n + 1)) (one (not (eqb y (n + 1)))) ≡ suc p - (n + 1) = ap (λ b. cond b (suc p - (n + 1)) (one (not (eqb y (n + 1))))) (eq-eqb k w e) in
    let b : cond (eqb k w) (suc p - n) (one (not (eqb x n))) ≡ suc p - n = ap (λ b. cond b (suc p - n) (one (not (eqb x n)))) (eq-eqb k w e) in
    omega arith

-- another worker settles a posting of it
go_other : (p w k n x : ℕ) → (k ≡ w → ⊥) → to_go p w k n x ≡ one (not (eqb x n))
unfolding to_go
go_other p w k n x e = ap (λ b. cond b (suc p - n) (one (not (eqb x n)))) (ne_eqb k w e)

unsettled_one : (x n : ℕ) → (x ≡ n → ⊥) → one (not (eqb x n)) ≡ 1
unsettled_one x n e = ap (λ b. one (not b)) (ne_eqb x n e)

settled_none : (x n : ℕ) → x ≡ n → one (not (eqb x n)) ≡ 0
settled_none x n e = ap (λ b. one (not b)) (eq-eqb x n e)

rounds_left : Meaning → ℕ → State → ℕ
rounds_left m w s = sum_below (λ g. to_go (m.postings g) w (s.keeper g) (s.house g).number ((s.worker w).settled g)) s.houses

-- a round that may come to nothing: its house has moved on, or its draft is stale or has entries before it
abbrev lost : (ℕ → House) → ℕ → Phase → ℕ
lost H len resting = 0
lost H len (looking r) = one (not (eqb r.number (H r.house).number))
lost H len (drafted r d stale) = one ((stale || ltb r.place len) || not (eqb r.number (H r.house).number))
lost H len (settling r) = one (not (eqb r.number (H r.house).number))

-- turns left in the round; a journal has at most 65,536 entries
abbrev turns_left : ℕ → Phase → ℕ
turns_left len resting = 65540
turns_left len (looking r) = 3 + (len - r.place)
turns_left len (drafted r d stale) = 2 + (len - r.place)
turns_left len (settling r) = 1

measure : Meaning → ℕ → State → ℕ
measure m w s =
    65541 * (rounds_left m w s + lost s.house (length s.journal) (s.worker w).phase) + turns_left (length s.journal) (s.worker w).phase

module _ (m : Meaning) (lim : Limits m) (s : State) (i : Sound m s) (w : ℕ) (j : Rising s) where
  few : length s.journal ≤ 65536
  few = omega (arith, fits m s i, sum_most m.postings 4096 m.houses lim.postings, lim.houses)

  R : ℕ
  R = rounds_left m w s

  -- by the phases before and after
  lower : (t : State) (p q : Phase) → (t.worker w).phase ≡ p → (s.worker w).phase ≡ q
      → 65541 * (rounds_left m w t + lost t.house (length t.journal) p) + turns_left (length t.journal) p
      < 65541 * (R + lost s.house (length s.journal) q) + turns_left (length s.journal) q
      → measure m w t < measure m w s
  unfolding measure R
  lower t p q ep eq l =
      subst (λ (x : Phase). measure m w t < 65541 * (R + lost s.house (length s.journal) x) + turns_left (length s.journal) x) (sym eq)
      (subst (λ (x : Phase). 65541 * (rounds_left m w t + lost t.house (length t.journal) x) + turns_left (length t.journal) x
      < 65541 * (R + lost s.house (length s.journal) q) + turns_left (length s.journal) q) (sym ep) l)

  -- nothing is settled
  same_left : (t : State) (x : Worker) → t.worker w ≡ x → x.settled ≡ (s.worker w).settled → t.keeper ≡ s.keeper
      → ((g : ℕ) → (t.house g).number ≡ (s.house g).number) → t.houses ≡ s.houses → rounds_left m w t ≤ R
  unfolding rounds_left R
  same_left t x ew es ek en eh =
      subst (λ (n : ℕ). sum_below (λ g. to_go (m.postings g) w (t.keeper g) (t.house g).number ((t.worker w).settled g)) n ≤ rounds_left m w s) (sym eh)
      (sum_le _ _ s.houses (λ g l. omega (arith, each g)))
    where
      each : (g : ℕ) → to_go (m.postings g) w (t.keeper g) (t.house g).number ((t.worker w).settled g)
          ≡ to_go (m.postings g) w (s.keeper g) (s.house g).number ((s.worker w).settled g)
      each g =
          ap (λ (f : ℕ → ℕ). to_go (m.postings g) w (f g) (t.house g).number ((t.worker w).settled g)) ek
          ∙ ap (λ (n : ℕ). to_go (m.postings g) w (s.keeper g) n ((t.worker w).settled g)) (en g)
          ∙ ap (λ (f : ℕ → ℕ). to_go (m.postings g) w (s.keeper g) (s.house g).number (f g)) (ap (λ (z : Worker). z.settled) ew ∙ es)

  put_phase : (x : Worker) → (put s.worker w x w).phase ≡ x.phase
  put_phase x = ap (λ (z : Worker). z.phase) (put_same s.worker w x)

  -- a new round
  begins : (g : ℕ) (favourite : Option ℕ) (next : ℕ) → (s.worker w).phase ≡ resting → measure m w (taken_up s w g favourite next) < measure m w s
  begins g favourite next e =
      let x : Worker = record { phase = looking (new_round s g); settled = (s.worker w).settled; favourite = favourite; next = next } in
      lower (taken_up s w g favourite next) (looking (new_round s g)) resting (put_phase x) e
      (omega (
        arith,
        few,
        same_left (taken_up s w g favourite next) x (put_same s.worker w x) refl refl (λ g. refl) refl,
        settled_none (s.house g).number (s.house g).number refl,
      ))

  -- the worker goes on with its round, or ends it, and no house's number is altered
  goes_on : (t : State) (p q : Phase) → t.worker ≡ put s.worker w (in_phase (s.worker w) p) → t.keeper ≡ s.keeper
      → ((g : ℕ) → (t.house g).number ≡ (s.house g).number) → t.houses ≡ s.houses → (s.worker w).phase ≡ q
      → (rounds_left m w t ≤ R → 65541 * (rounds_left m w t + lost t.house (length t.journal) p) + turns_left (length t.journal) p
      < 65541 * (R + lost s.house (length s.journal) q) + turns_left (length s.journal) q)
      → measure m w t < measure m w s
  goes_on t p q ew ek en eh e l =
      let at : t.worker w ≡ in_phase (s.worker w) p = ap (λ (f : ℕ → Worker). f w) ew ∙ put_same s.worker w (in_phase (s.worker w) p) in
      lower t p q (ap (λ (z : Worker). z.phase) at) e (l (same_left t (in_phase (s.worker w) p) at refl ek en eh))

  number_kept : (h : ℕ) (y : House) → y.number ≡ (s.house h).number → (g : ℕ) → (put s.house h y g).number ≡ (s.house g).number
  number_kept h y e = put_all (λ g z. z.number ≡ (s.house g).number) s.house h y e (λ g n. refl)

  -- a settled posting: one round less, or the round was counted as lost
  settled_lower : (t : State) (r : Round) (favourite : Option ℕ) → (s.worker w).phase ≡ settling r
      → t.worker ≡ put s.worker w (has_settled (s.worker w) r favourite)
      → (rounds_left m w t < R) ⊎ ((rounds_left m w t ≤ R) × (r.number ≡ (s.house r.house).number → ⊥)) → measure m w t < measure m w s
  settled_lower t r favourite e ew why =
      lower t resting (settling r) (ap (λ (f : ℕ → Worker). (f w).phase) ew ∙ put_phase (has_settled (s.worker w) r favourite)) e (go why)
    where
      go : (rounds_left m w t < R) ⊎ ((rounds_left m w t ≤ R) × (r.number ≡ (s.house r.house).number → ⊥))
          → 65541 * (rounds_left m w t + 0) + 65540 < 65541 * (R + one (not (eqb r.number (s.house r.house).number))) + 1
      go (inl l) = omega arith
      go (inr l) = omega (arith, unsettled_one r.number (s.house r.house).number l.1)

  -- the rounds left after settling, where the other houses stay as they are
  module _ (t : State) (r : Round) (favourite : Option ℕ) (ew : t.worker ≡ put s.worker w (has_settled (s.worker w) r favourite))
      (ek : t.keeper ≡ s.keeper) (en : (g : ℕ) → (r.house ≡ g → ⊥) → (t.house g).number ≡ (s.house g).number) (eh : t.houses ≡ s.houses)
      (n : ℕ) (at-house : (t.house r.house).number ≡ n) where
    now : ℕ → ℕ
    now g = to_go (m.postings g) w (t.keeper g) (t.house g).number ((t.worker w).settled g)

    was : ℕ → ℕ
    was g = to_go (m.postings g) w (s.keeper g) (s.house g).number ((s.worker w).settled g)

    noted : (g : ℕ) → (t.worker w).settled g ≡ put (s.worker w).settled r.house r.number g
    noted g =
        ap (λ (f : ℕ → Worker). (f w).settled g) ew ∙ ap (λ (z : Worker). z.settled g) (put_same s.worker w (has_settled (s.worker w) r favourite))

    here : now r.house ≡ to_go (m.postings r.house) w (s.keeper r.house) n r.number
    unfolding now
    here =
        ap (λ (f : ℕ → ℕ). to_go (m.postings r.house) w (f r.house) (t.house r.house).number ((t.worker w).settled r.house)) ek
        ∙ ap (λ (x : ℕ). to_go (m.postings r.house) w (s.keeper r.house) x ((t.worker w).settled r.house)) at-house
        ∙ ap (to_go (m.postings r.house) w (s.keeper r.house) n) (noted r.house ∙ put_same (s.worker w).settled r.house r.number)

    there : (g : ℕ) → (r.house ≡ g → ⊥) → now g ≡ was g
    unfolding now was
    there g e =
        ap (λ (f : ℕ → ℕ). to_go (m.postings g) w (f g) (t.house g).number ((t.worker w).settled g)) ek
        ∙ ap (λ (x : ℕ). to_go (m.postings g) w (s.keeper g) x ((t.worker w).settled g)) (en g e)
        ∙ ap (to_go (m.postings g) w (s.keeper g) (s.house g).number) (noted g ∙ put_other (s.worker w).settled r.house r.number g e)

    all_le : to_go (m.postings r.house) w (s.keeper r.house) n r.number ≤ was r.house → (g : ℕ) → now g ≤ was g
    all_le l g = go (cases_eq r.house g)
      where
        go : (r.house ≡ g) ⊎ (r.house ≡ g → ⊥) → now g ≤ was g
        go (inl e) = subst (λ (x : ℕ). now x ≤ was x) e (omega (arith, here))
        go (inr e) = omega (arith, there g e)

    no_more_left : to_go (m.postings r.house) w (s.keeper r.house) n r.number
        ≤ to_go (m.postings r.house) w (s.keeper r.house) (s.house r.house).number ((s.worker w).settled r.house)
        → rounds_left m w t ≤ R
    unfolding rounds_left R now was
    no_more_left l = subst (λ (x : ℕ). sum_below now x ≤ sum_below was s.houses) (sym eh) (sum_le now was s.houses (λ g _. all_le l g))

    less_left : r.house < s.houses → to_go (m.postings r.house) w (s.keeper r.house) n r.number
        < to_go (m.postings r.house) w (s.keeper r.house) (s.house r.house).number ((s.worker w).settled r.house)
        → rounds_left m w t < R
    unfolding rounds_left R now was
    less_left b l =
        subst (λ (x : ℕ). sum_below now x < sum_below was s.houses) (sym eh)
        (sum_less now was s.houses r.house b (λ g _. all_le (omega arith) g) (omega (arith, here)))

  -- a stale draft is dropped
  drops_round : (t : State) (r : Round) (d : Outcome) → t.worker ≡ put s.worker w (in_phase (s.worker w) resting) → t.keeper ≡ s.keeper
      → ((g : ℕ) → (t.house g).number ≡ (s.house g).number) → t.houses ≡ s.houses → (s.worker w).phase ≡ drafted r d true → measure m w t < measure m w s
  drops_round t r d ew ek en eh e = goes_on t resting (drafted r d true) ew ek en eh e (λ b. omega arith)

  -- a draft with entries before it counts as lost
  behind_draft : (r : Round) (stale : Bool) → r.place < length s.journal
      → one ((stale || ltb r.place (length s.journal)) || not (eqb r.number (s.house r.house).number)) ≡ 1
  behind_draft r true l = refl
  behind_draft r false l = ap (λ (x : Bool). one (x || not (eqb r.number (s.house r.house).number))) (lt-ltb r.place (length s.journal) l)

  -- and one at the end does so only if its house has moved on
  ended_draft : (r : Round) → r.place ≡ length s.journal
      → one ((false || ltb r.place (length s.journal)) || not (eqb r.number (s.house r.house).number))
      ≡ one (not (eqb r.number (s.house r.house).number))
  ended_draft r full =
      ap (λ (x : Bool). one (x || not (eqb r.number (s.house r.house).number))) (le-ltb r.place (length s.journal) (omega arith))

  step_lowers : (a : Answer) (t : State) → Step m s w a t → (kind_of a ≡ 0 → ⊥) → measure m w t < measure m w s
  step_lowers a t (helps g e asks) busy = begins g (s.worker w).favourite (s.worker w).next e
  step_lowers a t (returns g e none f) busy = begins g _ _ e
  step_lowers a t (chooses g e none f next) busy = begins g _ _ e
  step_lowers a t (idles e none f nobody) busy = absurd (busy refl)
  step_lowers a t (passes r e l away) busy = goes_on t (looking (onward r)) (looking r) refl refl (λ g. refl) refl e (λ b. omega arith)
  step_lowers a t (finds r e here) busy = goes_on t (settling r) (looking r) refl refl (λ g. refl) refl e (λ b. omega arith)
  step_lowers a t (drafts r e full) busy =
      goes_on t (drafted r (draft_of m s r) false) (looking r) refl refl (λ g. refl) refl e (λ b. omega (arith, ended_draft r full))
  step_lowers a t (overtakes r d stale e l away) busy =
      goes_on t (drafted (onward r) d (stale || touches d.reads (entry_at s.journal r.place).pairs)) (drafted r d stale) refl refl (λ g. refl) refl e
      (λ b. omega (arith, behind_draft r stale l, one_le (((stale || touches d.reads (entry_at s.journal r.place).pairs) || ltb (r.place + 1) (length s.journal)) || not (eqb r.number (s.house r.house).number))))
  step_lowers a t (meets r d stale e here) busy =
      goes_on t (settling r) (drafted r d stale) refl refl (λ g. refl) refl e
      (λ b. omega (arith, behind_draft r stale here.0, one_le (not (eqb r.number (s.house r.house).number))))
  step_lowers a t (files r d e full) busy =
      goes_on t (settling r) (drafted r d false) refl refl (λ g. refl) refl e (λ b. omega (arith, ended_draft r full))
  step_lowers a t (drops r d e full other) busy = drops_round t r d refl refl (λ g. refl) refl e
  step_lowers a t (fails r d e full mine undated patient) busy = drops_round t r d refl refl (number_kept r.house (failing (s.house r.house)) refl) refl e
  step_lowers a t (calls r d e full mine undated impatient) busy =
      drops_round t r d refl refl (number_kept r.house (calling (s.house r.house) (s.dates + 1)) refl) refl e
  step_lowers a t (settles r e other) busy = settled_lower t r (s.worker w).favourite e refl (go (cases_eq r.number (s.house r.house).number))
    where
      k : SettlingOk m s w r
      k = phase_at m s i w (settling r) e

      above : (s.worker w).settled r.house < r.number
      above = above_at m s i w j (settling r) e

      before : to_go (m.postings r.house) w (s.keeper r.house) (s.house r.house).number ((s.worker w).settled r.house) ≡ 1
      before =
          go_other (m.postings r.house) w (s.keeper r.house) (s.house r.house).number ((s.worker w).settled r.house) other
          ∙ unsettled_one ((s.worker w).settled r.house) (s.house r.house).number (λ z. omega (arith, above, k.behind))

      after : to_go (m.postings r.house) w (s.keeper r.house) (s.house r.house).number r.number ≡ one (not (eqb r.number (s.house r.house).number))
      after = go_other (m.postings r.house) w (s.keeper r.house) (s.house r.house).number r.number other

      go : (r.number ≡ (s.house r.house).number) ⊎ (r.number ≡ (s.house r.house).number → ⊥)
          → (rounds_left m w t < R) ⊎ ((rounds_left m w t ≤ R) × (r.number ≡ (s.house r.house).number → ⊥))
      go (inl z) = inl (less_left t r (s.worker w).favourite refl refl (λ g f. refl) refl (s.house r.house).number refl k.known
          (omega (arith, before, after, settled_none r.number (s.house r.house).number z)))
      go (inr z) = inr (
        no_more_left t r (s.worker w).favourite refl refl (λ g f. refl) refl (s.house r.house).number refl
            (omega (arith, before, after, one_le (not (eqb r.number (s.house r.house).number)))),
        z,
      )
  step_lowers a t (moves_on r favourite e mine l drop) busy =
      settled_lower t r favourite e refl
      (inl (less_left t r favourite refl refl (λ g f. ap (λ (z : House). z.number) (put_other s.house r.house y g f)) refl
      ((s.house r.house).number + 1) (ap (λ (z : House). z.number) (put_same s.house r.house y)) k.known
      (go_kept (m.postings r.house) w (s.keeper r.house) (s.house r.house).number ((s.worker w).settled r.house) r.number mine
      (omega (arith, k.current mine, k.posted)))))
    where
      y : House
      y = moved_on (s.house r.house) (entry_at s.journal r.place).hand r.place

      k : SettlingOk m s w r
      k = phase_at m s i w (settling r) e

-- until it is idle
finishes : (m : Meaning) → Limits m → (w fuel : ℕ) (s : State) → Sound m s → Rising s → measure m w s ≤ fuel
    → (n : ℕ) × NothingToDo m (after_turns m s (replicate n w)) w
unfolding after_turns
finishes m lim w zero s i j l = go (cases_eq (kind_of (turn m s w).answer) 0)
  where
    go : (kind_of (turn m s w).answer ≡ 0) ⊎ (kind_of (turn m s w).answer ≡ 0 → ⊥) → (n : ℕ) × NothingToDo m (after_turns m s (replicate n w)) w
    go (inl z) = (0, nothing_to_do m lim s i w z)
    go (inr z) = absurd (omega (arith, step_lowers m lim s i w j _ _ (turn_follows m lim s i w) z))
finishes m lim w (suc fuel) s i j l =
    go (λ b. finishes m lim w fuel (turn m s w).state (turn_kept m lim s i w) (turn_rises m lim s i w j).rising b) (cases_eq (kind_of (turn m s w).answer) 0)
  where
    go : (measure m w (turn m s w).state ≤ fuel → (n : ℕ) × NothingToDo m (after_turns m (turn m s w).state (replicate n w)) w)
        → (kind_of (turn m s w).answer ≡ 0) ⊎ (kind_of (turn m s w).answer ≡ 0 → ⊥) → (n : ℕ) × NothingToDo m (after_turns m s (replicate n w)) w
    go ih (inl z) = (0, nothing_to_do m lim s i w z)
    go ih (inr z) = let f = ih (omega (arith, step_lowers m lim s i w j _ _ (turn_follows m lim s i w) z)) in (suc f.0, f.1)

pub left_alone : (m : Meaning) → Limits m → (s : State) → Sound m s → Rising s → (w : ℕ) → (n : ℕ) × NothingToDo m (after_turns m s (replicate n w)) w
left_alone m lim s i j w = finishes m lim w (measure m w s) s i j (omega arith)
