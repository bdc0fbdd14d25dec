-- In a sound state the function of a turn and the rules say the same: each turn follows a rule, and only one outcome is possible.
use Rattle.std.proofs.Common.{◌≡◌, ℕ, ◌+◌, ◌-◌, ◌<◌, ◌≤◌, Bool, true, false, cond, ◌&&◌, ◌||◌, eqb, ltb, ◌⊎◌, List, length, ℤ, Some, None, Decides, Option, sym, refl, ap, ◌∙◌, subst, inl, inr, arith}
use Rattle.std.specs.Option.{option_map}
use Rattle.std.proofs.lemmas.Bool.{cases_lt, cases_eq, both_ways, ltb-true, ltb-false, leb-false, eqb-true, eqb-false, lt-ltb, le-ltb, le-leb, eq-eqb, ne_eqb, and_parts, and_cases, and_from, and_left, and_right}
use Rattle.std.proofs.lemmas.Option.{slice_get_past}
use Rattle.std.proofs.lemmas.Bool.Decides.{Decides-eqb, Decides-and}
use Rattle.journal.specs.Entries.{Posted}
use Rattle.journal.specs.Readings.{id_at, id_of, hand_at}
use Rattle.journal.specs.Writing.{pairs_at, pairs_of}
use Rattle.journal.proofs.Lawfulness.{lawful_to}
use Rattle.posting.specs.Alone.{Outcome, posted_for}
use Rattle.posting.specs.Sources.{Meaning, Limits}
use Rattle.protocol.specs.Counting.{one}
use Rattle.protocol.specs.History.{entry_at, is_posting, touches}
use Rattle.protocol.specs.State.{Round, Phase, resting, looking, drafted, settling, State, with_worker, with_house, to_phase}
use Rattle.protocol.specs.Serving.{Asks, soonest, next_kept}
use Rattle.protocol.specs.Rules.{Answer, Here, told, onward, entry_here, moved_on, has_settled, Dropped, had_none, was_this, was_other, Step, helps, returns, chooses, idles, passes, finds, drafts, overtakes, meets, files, drops, fails, calls, settles, moves_on}
use Rattle.protocol.specs.Turn.{Turned, most_dates, choosing, resumed, is_below, is_here, is_at_end, looked, is_fileable, filing, keeps_undated, is_patient, is_calling, giving_up, at_end, followed, dropped, is_keeper, is_left, settled, turn_in, turn}
use Rattle.protocol.specs.Promises.{OneOutcome}
use Rattle.protocol.proofs.Counts.{sum_le, sum_most}
use Rattle.protocol.proofs.Grown.{nth_entry}
use Rattle.protocol.proofs.Sound.{Sound, RoundOk, phase_at, calls_of, kept}
use Rattle.protocol.proofs.Served.{AsksSaid, KeepsSaid, asks_said, keeps_said, none_asks, first_asks, none_kept, first_kept}
use Rattle.protocol.proofs.Once.{filing_stands}

-- what a reading tells of the entry at a place

id_here : (es : List Posted) (k : ℕ) → k < length es → id_at es k ≡ Some (id_of (entry_at es k))
id_here es k l = ap (option_map id_of) (nth_entry es k l)

hand_at_lem : (es : List Posted) (k : ℕ) → k < length es → hand_at es k ≡ Some (entry_at es k).hand
hand_at_lem es k l = ap (option_map (λ (e : Posted). e.hand)) (nth_entry es k l)

pairs_at_lem : (es : List Posted) (k : ℕ) → k < length es → pairs_at es k ≡ (entry_at es k).pairs
pairs_at_lem es k l = ap pairs_of (nth_entry es k l)

decides_here : (s : State) (r : Round) → Decides (is_here s r) (Here s r)
decides_here s r = go (cases_lt r.place (length s.journal))
  where
    e : Posted
    e = entry_at s.journal r.place

    both : Decides (eqb e.house r.house && eqb e.number r.number) ((e.house ≡ r.house) × (e.number ≡ r.number))
    both = Decides-and _ _ (Decides-eqb e.house r.house) (Decides-eqb e.number r.number)

    go : (r.place < length s.journal) ⊎ (length s.journal ≤ r.place) → Decides (is_here s r) (Here s r)
    go (inl l) =
        let same : is_here s r ≡ (eqb e.house r.house && eqb e.number r.number) =
        ap (λ o. is_posting o r.house r.number) (id_here s.journal r.place l) in
        (λ t. let b = both.0 (sym same ∙ t) in (l, b.0, b.1), λ h. same ∙ both.1 (h.1, h.2))
    go (inr l) =
        let same : is_here s r ≡ false = ap (λ (o : Option Posted). is_posting (option_map id_of o) r.house r.number) (slice_get_past s.journal r.place l) in
        (λ t. absurd (both_ways _ same t), λ h. absurd (omega (arith, h.0)))

not_here : (s : State) (r : Round) → is_here s r ≡ false → Here s r → ⊥
not_here s r e h = both_ways _ e ((decides_here s r).1 h)

is_not_here : (s : State) (r : Round) → (Here s r → ⊥) → is_here s r ≡ false
is_not_here s r away = go (is_here s r) refl
  where
    go : (b : Bool) → is_here s r ≡ b → b ≡ false
    go true e = absurd (away ((decides_here s r).0 e))
    go false e = refl

dropped_says : (h : ℕ) (o : Option ℕ) → Dropped h o (dropped h o)
dropped_says h None = had_none
dropped_says h (Some f) = go (eqb f h) refl
  where
    go : (b : Bool) → eqb f h ≡ b → Dropped h (Some f) (cond b None (Some f))
    go true e = subst (λ (x : ℕ). Dropped h (Some x) None) (sym (eqb-true f h e)) was_this
    go false e = was_other f (eqb-false f h e)

dropped_only : (h : ℕ) (old new : Option ℕ) → Dropped h old new → dropped h old ≡ new
dropped_only h old new had_none = refl
dropped_only h old new was_this = ap (λ b. cond b None (Some h)) (eq-eqb h h refl)
dropped_only h old new (was_other f n) = ap (λ b. cond b None (Some f)) (ne_eqb f h n)

-- at most one help date for each posting
few_dates : (m : Meaning) → Limits m → (s : State) → Sound m s → s.dates ≤ most_dates
few_dates m lim s i =
    omega (
      arith,
      i.called,
      sum_le (λ g. calls_of (s.house g)) m.postings s.houses (λ g l. calls_few g (ltb 0 (s.house g).date) refl),
      sum_most m.postings 4096 s.houses lim.postings,
      i.same_houses,
      lim.houses,
    )
  where
    calls_few : (g : ℕ) (b : Bool) → ltb 0 (s.house g).date ≡ b → ((s.house g).number - 1) + one b ≤ m.postings g
    calls_few g true e = omega (arith, i.open_dated g (ltb-true _ _ e), (i.houses g).counted)
    calls_few g false e = omega (arith, i.left g)

module _ (m : Meaning) (lim : Limits m) (s : State) (i : Sound m s) (w : ℕ) where
  abbrev Follows : Turned → Type 0
  Follows t = Step m s w t.answer t.state

  choosing_follows : (s.worker w).phase ≡ resting → ((k : ℕ) → Asks m s w k → ⊥) → (s.worker w).favourite ≡ None
      → (o : Option ℕ) → KeepsSaid m s w o → Follows (choosing s w o)
  choosing_follows e none f None h = idles e none f h
  choosing_follows e none f (Some g) h = chooses g e none f h

  resumed_follows : (s.worker w).phase ≡ resting → (o : Option ℕ) → AsksSaid m s w o → (f : Option ℕ) → (s.worker w).favourite ≡ f → Follows (resumed m s w o f)
  resumed_follows e (Some g) h f ef = subst (λ (x : Option ℕ). Follows (resumed m s w (Some g) x)) ef (helps g e h)
  resumed_follows e None h (Some g) ef = returns g e h ef
  resumed_follows e None h None ef = choosing_follows e h ef (next_kept m s w) (keeps_said m s w (i.next w))

  at_end_lem : (r : Round) → RoundOk m s w r → is_below s r ≡ false → r.place ≡ length s.journal
  at_end_lem r k e = omega (arith, ltb-false _ _ e, k.within)

  looked_follows : (r : Round) → (s.worker w).phase ≡ looking r → (b h z : Bool) → is_below s r ≡ b → is_here s r ≡ h → is_at_end s r ≡ z → Follows (looked m s w r b h z)
  looked_follows r e true false z eb eh ez = passes r e (ltb-true _ _ eb) (not_here s r eh)
  looked_follows r e true true z eb eh ez = finds r e ((decides_here s r).0 eh)
  looked_follows r e false h true eb eh ez = drafts r e (eqb-true _ _ ez)
  looked_follows r e false h false eb eh ez = absurd (eqb-false _ _ ez (at_end_lem r (phase_at m s i w (looking r) e) eb))

  fileable : (r : Round) (d : Outcome) → (s.worker w).phase ≡ drafted r d false → r.place ≡ length s.journal → is_fileable s r d ≡ true
  fileable r d e full =
      let a = filing_stands m lim s i w r d e full in
      and_from _ _ (lawful_to (posted_for d r.house r.number) a.0) (lt-ltb _ _ a.1)

  filing_follows : (r : Round) (d : Outcome) → (s.worker w).phase ≡ drafted r d false → r.place ≡ length s.journal
      → (b : Bool) → is_fileable s r d ≡ b → Follows (filing s w r d b)
  filing_follows r d e full true eb = files r d e full
  filing_follows r d e full false eb = absurd (both_ways _ eb (fileable r d e full))

  -- a house that calls for help leaves room for its date
  dates_left : (r : Round) (d : Outcome) → (s.worker w).phase ≡ drafted r d true → r.place ≡ length s.journal
      → s.keeper r.house ≡ w → (s.house r.house).date ≡ 0 → (s.house r.house).failed + 1 ≡ s.patience → s.dates < most_dates
  dates_left r d e full mine undated impatient = omega (arith, few_dates m lim _ (kept m lim s w i _ _ (calls r d e full mine undated impatient)))

  giving_up_follows : (r : Round) (d : Outcome) → (s.worker w).phase ≡ drafted r d true → r.place ≡ length s.journal
      → (k p c : Bool) → keeps_undated s w r ≡ k → is_patient s r ≡ p → is_calling s r ≡ c → Follows (giving_up s w r k p c)
  giving_up_follows r d e full false p c ek ep ec = drops r d e full (other (and_cases _ _ ek))
    where
      other : (eqb (s.keeper r.house) w ≡ false) ⊎ (eqb (s.house r.house).date 0 ≡ false) → s.keeper r.house ≡ w → (s.house r.house).date ≡ 0 → ⊥
      other (inl f) a b = eqb-false _ _ f a
      other (inr f) a b = eqb-false _ _ f b
  giving_up_follows r d e full true true c ek ep ec =
      let a = and_parts _ _ ek in
      fails r d e full (eqb-true _ _ a.0) (eqb-true _ _ a.1) (ltb-true _ _ ep)
  giving_up_follows r d e full true false true ek ep ec =
      let a = and_parts _ _ ek in
      calls r d e full (eqb-true _ _ a.0) (eqb-true _ _ a.1) (eqb-true _ _ (and_parts _ _ ec).0)
  giving_up_follows r d e full true false false ek ep ec =
      let a : (eqb (s.keeper r.house) w ≡ true) × (eqb (s.house r.house).date 0 ≡ true) = and_parts _ _ ek in
      let q : (s.house r.house).failed + 1 ≡ s.patience = omega (arith, ltb-false _ _ ep, (i.houses r.house).patient (eqb-true _ _ a.1)) in
      absurd (both_ways _ ec (and_from _ _ (eq-eqb _ _ q) (lt-ltb _ _ (dates_left r d e full (eqb-true _ _ a.0) (eqb-true _ _ a.1) q))))

  end_follows : (r : Round) (d : Outcome) (stale : Bool) → (s.worker w).phase ≡ drafted r d stale → r.place ≡ length s.journal → Follows (at_end s w r d stale)
  end_follows r d false e full = filing_follows r d e full (is_fileable s r d) refl
  end_follows r d true e full = giving_up_follows r d e full (keeps_undated s w r) (is_patient s r) (is_calling s r) refl refl refl

  followed_follows : (r : Round) (d : Outcome) (stale : Bool) → (s.worker w).phase ≡ drafted r d stale → (b h z : Bool) → is_below s r ≡ b → is_here s r ≡ h → is_at_end s r ≡ z
      → Follows (followed s w r d stale b h z)
  followed_follows r d stale e true false z eb eh ez =
      subst (λ ps. Step m s w (told 2 (onward r)) (to_phase s w (drafted (onward r) d (stale || touches d.reads ps))))
      (sym (pairs_at_lem s.journal r.place (ltb-true _ _ eb))) (overtakes r d stale e (ltb-true _ _ eb) (not_here s r eh))
  followed_follows r d stale e true true z eb eh ez = meets r d stale e ((decides_here s r).0 eh)
  followed_follows r d stale e false h true eb eh ez = end_follows r d stale e (eqb-true _ _ ez)
  followed_follows r d stale e false h false eb eh ez = absurd (eqb-false _ _ ez (at_end_lem r (phase_at m s i w (drafted r d stale) e).0 eb))

  -- a house whose keeper settles its posting is open
  keeper_open : (r : Round) → (s.worker w).phase ≡ settling r → s.keeper r.house ≡ w → (s.house r.house).number ≤ m.postings r.house
  keeper_open r e mine = let k = phase_at m s i w (settling r) e in omega (arith, k.current mine, k.posted)

  settled_follows : (r : Round) → (s.worker w).phase ≡ settling r → (k : Bool) → is_keeper s w r ≡ k
      → (o : Option ℤ) → hand_at s.journal r.place ≡ o → (l : Bool) → is_left m s r ≡ l → Follows (settled s w r k o l)
  settled_follows r e false ek o eo l el = settles r e (eqb-false _ _ ek)
  settled_follows r e true ek None eo l el =
      let there = hand_at_lem s.journal r.place (phase_at m s i w (settling r) e).here.0 in
      absurd (let z : ◌≡◌ {A = ℕ} 0 1 = cc in omega arith)
  settled_follows r e true ek (Some hand) eo false el = absurd (omega (arith, leb-false _ _ el, keeper_open r e (eqb-true _ _ ek)))
  settled_follows r e true ek (Some hand) eo true el =
      let l = (phase_at m s i w (settling r) e).here.0 in
      subst (λ (x : ℤ). Step m s w (told 8 r) (with_house (with_worker s w (has_settled (s.worker w) r (dropped r.house (s.worker w).favourite))) r.house (moved_on (s.house r.house) x r.place)))
      (same (sym (hand_at_lem s.journal r.place l) ∙ eo))
      (moves_on r (dropped r.house (s.worker w).favourite) e (eqb-true _ _ ek) l (dropped_says r.house (s.worker w).favourite))
    where
      same : {x : ℤ} → Some x ≡ Some hand → x ≡ hand
      same q = cc

  follows_in : (p : Phase) → (s.worker w).phase ≡ p → Follows (turn_in m s w p)
  follows_in resting e = resumed_follows e (soonest m s w s.houses) (asks_said m s w) (s.worker w).favourite refl
  follows_in (looking r) e = looked_follows r e (is_below s r) (is_here s r) (is_at_end s r) refl refl refl
  follows_in (drafted r d stale) e = followed_follows r d stale e (is_below s r) (is_here s r) (is_at_end s r) refl refl refl
  follows_in (settling r) e = settled_follows r e (is_keeper s w r) refl (hand_at s.journal r.place) refl (is_left m s r) refl

  pub turn_follows : Step m s w (turn m s w).answer (turn m s w).state
  unfolding turn
  turn_follows = follows_in (s.worker w).phase refl

  -- the function comes to what a rule says

  turn_in_lem : (p : Phase) → (s.worker w).phase ≡ p → turn m s w ≡ turn_in m s w p
  unfolding turn
  turn_in_lem p e = ap (turn_in m s w) e

  below : (r : Round) → r.place < length s.journal → is_below s r ≡ true
  below r l = lt-ltb _ _ l

  ended : (r : Round) → r.place ≡ length s.journal → is_below s r ≡ false
  ended r full = le-ltb _ _ (omega arith)

  at_rest : (s.worker w).phase ≡ resting → ((k : ℕ) → Asks m s w k → ⊥) → (f : Option ℕ) → (s.worker w).favourite ≡ f → turn m s w ≡ resumed m s w None f
  at_rest e none f ef = turn_in_lem resting e ∙ ap (λ (o : Option ℕ). resumed m s w o (s.worker w).favourite) (none_asks m s w none) ∙ ap (resumed m s w None) ef

  looking_at : (r : Round) (b h z : Bool) → (s.worker w).phase ≡ looking r → is_below s r ≡ b → is_here s r ≡ h → is_at_end s r ≡ z → turn m s w ≡ looked m s w r b h z
  looking_at r b h z e eb eh ez =
      turn_in_lem (looking r) e ∙ ap (λ (x : Bool). looked m s w r x (is_here s r) (is_at_end s r)) eb ∙ ap (λ (x : Bool). looked m s w r b x (is_at_end s r)) eh ∙ ap (looked m s w r b h) ez

  drafted_at : (r : Round) (d : Outcome) (stale b h z : Bool) → (s.worker w).phase ≡ drafted r d stale → is_below s r ≡ b → is_here s r ≡ h → is_at_end s r ≡ z
      → turn m s w ≡ followed s w r d stale b h z
  drafted_at r d stale b h z e eb eh ez =
      turn_in_lem (drafted r d stale) e ∙ ap (λ (x : Bool). followed s w r d stale x (is_here s r) (is_at_end s r)) eb
      ∙ ap (λ (x : Bool). followed s w r d stale b x (is_at_end s r)) eh ∙ ap (followed s w r d stale b h) ez

  stale_at : (r : Round) (d : Outcome) (k p c : Bool) → (s.worker w).phase ≡ drafted r d true → r.place ≡ length s.journal
      → keeps_undated s w r ≡ k → is_patient s r ≡ p → is_calling s r ≡ c → turn m s w ≡ giving_up s w r k p c
  stale_at r d k p c e full ek ep ec =
      drafted_at r d true false (is_here s r) true e (ended r full) refl (eq-eqb _ _ full)
      ∙ ap (λ (x : Bool). giving_up s w r x (is_patient s r) (is_calling s r)) ek ∙ ap (λ (x : Bool). giving_up s w r k x (is_calling s r)) ep ∙ ap (giving_up s w r k p) ec

  settling_at : (r : Round) (k : Bool) (o : Option ℤ) (l : Bool) → (s.worker w).phase ≡ settling r → is_keeper s w r ≡ k → hand_at s.journal r.place ≡ o
      → is_left m s r ≡ l → turn m s w ≡ settled s w r k o l
  settling_at r k o l e ek eo el =
      turn_in_lem (settling r) e
      ∙ ap (λ (x : Bool). settled s w r x (hand_at s.journal r.place) (is_left m s r)) ek
      ∙ ap (λ (x : Option ℤ). settled s w r k x (is_left m s r)) eo ∙ ap (settled s w r k o) el

  not_both : (r : Round) → (s.keeper r.house ≡ w → (s.house r.house).date ≡ 0 → ⊥) → keeps_undated s w r ≡ false
  not_both r other = go (cases_eq (s.keeper r.house) w)
    where
      go : (s.keeper r.house ≡ w) ⊎ (s.keeper r.house ≡ w → ⊥) → keeps_undated s w r ≡ false
      go (inl a) = and_right _ _ (ne_eqb _ _ (other a))
      go (inr a) = and_left _ _ (ne_eqb _ _ a)

  both_hold : (r : Round) → s.keeper r.house ≡ w → (s.house r.house).date ≡ 0 → keeps_undated s w r ≡ true
  both_hold r mine undated = and_from _ _ (eq-eqb _ _ mine) (eq-eqb _ _ undated)

  abbrev made : Answer → State → Turned
  made a t = record { answer = a; state = t }

  computed : (a : Answer) (t : State) → Step m s w a t → turn m s w ≡ made a t
  computed a t (helps g e asks) = turn_in_lem resting e ∙ ap (λ (o : Option ℕ). resumed m s w o (s.worker w).favourite) (first_asks m s w g i.distinct asks)
  computed a t (returns g e none f) = at_rest e none (Some g) f
  computed a t (chooses g e none f next) = at_rest e none None f ∙ ap (choosing s w) (first_kept m s w g (i.next w) next)
  computed a t (idles e none f nobody) = at_rest e none None f ∙ ap (choosing s w) (none_kept m s w (i.next w) nobody)
  computed a t (passes r e l away) = looking_at r true false (is_at_end s r) e (below r l) (is_not_here s r away) refl
  computed a t (finds r e here) = looking_at r true true (is_at_end s r) e (below r here.0) ((decides_here s r).1 here) refl
  computed a t (drafts r e full) = looking_at r false (is_here s r) true e (ended r full) refl (eq-eqb _ _ full)
  computed a t (overtakes r d stale e l away) =
      drafted_at r d stale true false (is_at_end s r) e (below r l) (is_not_here s r away) refl
      ∙ ap (λ ps. made (told 2 (onward r)) (to_phase s w (drafted (onward r) d (stale || touches d.reads ps)))) (pairs_at_lem s.journal r.place l)
  computed a t (meets r d stale e here) = drafted_at r d stale true true (is_at_end s r) e (below r here.0) ((decides_here s r).1 here) refl
  computed a t (files r d e full) =
      drafted_at r d false false (is_here s r) true e (ended r full) refl (eq-eqb _ _ full) ∙ ap (filing s w r d) (fileable r d e full)
  computed a t (drops r d e full other) = stale_at r d false (is_patient s r) (is_calling s r) e full (not_both r other) refl refl
  computed a t (fails r d e full mine undated patient) = stale_at r d true true (is_calling s r) e full (both_hold r mine undated) (lt-ltb _ _ patient) refl
  computed a t (calls r d e full mine undated impatient) =
      stale_at r d true false true e full (both_hold r mine undated) (le-ltb _ _ (omega arith))
      (and_from _ _ (eq-eqb _ _ impatient) (lt-ltb _ _ (dates_left r d e full mine undated impatient)))
  computed a t (settles r e other) =
      settling_at r false (hand_at s.journal r.place) (is_left m s r) e (ne_eqb _ _ other) refl refl
  computed a t (moves_on r favourite e mine l drop) =
      settling_at r true (Some (entry_here s r).hand) true e (eq-eqb _ _ mine) (hand_at_lem s.journal r.place l) (le-leb _ _ (keeper_open r e mine))
      ∙ ap (λ (f : Option ℕ). made (told 8 r) (with_house (with_worker s w (has_settled (s.worker w) r f)) r.house (moved_on (s.house r.house) (entry_here s r).hand r.place)))
      (dropped_only r.house (s.worker w).favourite favourite drop)

  pub one_outcome : OneOutcome m s w
  one_outcome = record {
    some = turn_follows;
    only = λ a t step. (ap (λ (x : Turned). x.answer) (sym (computed a t step)), ap (λ (x : Turned). x.state) (sym (computed a t step)));
  }

-- a turn keeps an office sound
pub turn_kept : (m : Meaning) → Limits m → (s : State) → Sound m s → (w : ℕ) → Sound m (turn m s w).state
turn_kept m lim s i w = kept m lim s w i (turn m s w).answer (turn m s w).state (turn_follows m lim s i w)
