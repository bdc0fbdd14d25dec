-- What a list of calls leaves is what the turns that it takes leave, one after the other.
use Rattle.std.proofs.Common.{◌≡◌, ℕ, zero, suc, ◌+◌, ◌<◌, Bool, true, false, cond, ◌&&◌, eqb, ltb, leb, List, [], ◌∷◌, ◌++◌, length, replicate, Some, None, Ok, Err, Option, sym, refl, ap, ◌∙◌, subst, arith}
use Rattle.std.proofs.lemmas.Bool.{both_ways, ltb-true, ltb-false, ne_eqb, and_right}
use Rattle.batch.specs.Plans.{Terms}
use Rattle.batch.specs.declared.records.Run.{Run}
use Rattle.posting.specs.Sources.{Meaning, Limits}
use Rattle.protocol.specs.State.{State}
use Rattle.protocol.specs.Turn.{turn, after_turns}
use Rattle.protocol.specs.Opening.{all_postings, is_unused, opening_answer, opening_leaves}
use Rattle.protocol.specs.Calls.{Call, turns, runs, balance, house, line, opening, refused_item, run_refused, run_turns, turns_of, after_call, after, turns_in, turns_taken, each_turn}
use Rattle.protocol.specs.Promises.{ARunIsItsTurns}
use Rattle.protocol.specs.declared.refusals.OpeningRefusal.TheVariants.{HousesDiffer, NotEmpty, TooManyPostings}
use Rattle.protocol.specs.declared.refusals.RunRefusal.{RunRefusal}
use Rattle.protocol.specs.declared.refusals.RunRefusal.TheVariants as run_refusal
use Rattle.protocol.proofs.Unaltered.{Same, turn_same}
use Rattle.protocol.proofs.Sound.{Sound}
use Rattle.protocol.proofs.Outcomes.{turn_kept}
use Rattle.protocol.proofs.Help.{AllBelow}

pub below_append : (n : ℕ) (xs ys : List ℕ) → AllBelow n xs → AllBelow n ys → AllBelow n (xs ++ ys)
below_append n [] ys a b = b
below_append n (x ∷ xs) ys a b = (a.0, below_append n xs ys a.1 b)

pub below_rest : (n : ℕ) (xs ys : List ℕ) → AllBelow n (xs ++ ys) → AllBelow n ys
below_rest n [] ys a = a
below_rest n (x ∷ xs) ys a = below_rest n xs ys a.1

below_repeat : (n w k : ℕ) → w < n → AllBelow n (replicate k w)
below_repeat n w zero l = tt
below_repeat n w (suc k) l = (l, below_repeat n w k l)

-- the turns of a run that is not refused are of workers that there are

items_below : (n k : ℕ) (rs : List Run) → refused_item n k rs ≡ None → AllBelow n (turns_of rs)
items_below n k [] e = tt
items_below n k (r ∷ rs) e = go (ltb r.worker n) refl (leb 1 r.count && leb r.count 10000) (λ q. items_below n (k + 1) rs q) e
  where
    go : (b : Bool) → ltb r.worker n ≡ b → (c : Bool) → (refused_item n (k + 1) rs ≡ None → AllBelow n (turns_of rs))
        → cond b (cond c (refused_item n (k + 1) rs) (Some (run_refusal.BadCount k))) (Some (run_refusal.NoSuchWorker k)) ≡ None
        → AllBelow n (replicate r.count r.worker ++ turns_of rs)
    go true f true ih q = below_append n (replicate r.count r.worker) (turns_of rs) (below_repeat n r.worker r.count (ltb-true _ _ f)) (ih q)
    go true f false ih q = absurd (let z : ◌≡◌ {A = ℕ} 0 1 = cc in omega arith)
    go false f c ih q = absurd (let z : ◌≡◌ {A = ℕ} 0 1 = cc in omega arith)

runs_below : (n : ℕ) (rs : List Run) → run_refused n rs ≡ None → AllBelow n (turns_of rs)
runs_below n rs e = go (leb (length rs) 4096) e
  where
    go : (b : Bool) → cond b (refused_item n 0 rs) (Some run_refusal.TooManyItems) ≡ None → AllBelow n (turns_of rs)
    go true q = items_below n 0 rs q
    go false q = absurd (let z : ◌≡◌ {A = ℕ} 0 1 = cc in omega arith)

run_below : (n : ℕ) (rs : List Run) (o : Option RunRefusal) → run_refused n rs ≡ o → AllBelow n (run_turns o rs)
run_below n rs (Some x) e = tt
run_below n rs None e = runs_below n rs e

turn_below : (n w : ℕ) (b : Bool) → ltb w n ≡ b → AllBelow n (cond b (w ∷ []) [])
turn_below n w true e = (ltb-true _ _ e, tt)
turn_below n w false e = tt

call_below : (n : ℕ) (c : Call) → AllBelow n (turns_in n c)
call_below n (turns w) = turn_below n w (ltb w n) refl
call_below n (runs rs) = run_below n rs (run_refused n rs) refl
call_below n (balance a k) = tt
call_below n (house h) = tt
call_below n (line k room) = tt
call_below n (opening p) = tt

pub taken_below : (n : ℕ) (cs : List Call) → AllBelow n (turns_taken n cs)
taken_below n [] = tt
taken_below n (c ∷ cs) = below_append n (turns_in n c) (turns_taken n cs) (call_below n c) (taken_below n cs)

pub turns_append : (m : Meaning) (s : State) (xs ys : List ℕ) → after_turns m s (xs ++ ys) ≡ after_turns m (after_turns m s xs) ys
unfolding after_turns
turns_append m s [] ys = refl
turns_append m s (x ∷ xs) ys = turns_append m (turn m s x).state xs ys

pub turns_same : (m : Meaning) (s : State) (ws : List ℕ) → Same s (after_turns m s ws)
unfolding after_turns
turns_same m s [] = record { houses = refl; workers = refl; openings = refl; keeper = refl; patience = refl }
turns_same m s (w ∷ ws) =
    let a = turn_same m s w in
    let b = turns_same m (turn m s w).state ws in
    record {
      houses = b.houses ∙ a.houses;
      workers = b.workers ∙ a.workers;
      openings = b.openings ∙ a.openings;
      keeper = b.keeper ∙ a.keeper;
      patience = b.patience ∙ a.patience;
    }

pub turns_kept : (m : Meaning) → Limits m → (s : State) → Sound m s → (ws : List ℕ) → Sound m (after_turns m s ws)
unfolding after_turns
turns_kept m lim s i [] = i
turns_kept m lim s i (w ∷ ws) = turns_kept m lim (turn m s w).state (turn_kept m lim s i w) ws

-- an office that has workers is not opened again
not_again : (m : Meaning) (p : Terms) (s : State) → 0 < s.workers → opening_leaves (opening_answer m p s) p s ≡ s
not_again m p s l = go (eqb m.houses p.houses) (is_unused s) (and_right _ _ (ne_eqb s.workers 0 (λ e. omega arith)))
  where
    go : (a b : Bool) → b ≡ false
        → opening_leaves (cond a (cond b (cond (leb (all_postings m) s.size) (Ok tt) (Err TooManyPostings)) (Err NotEmpty)) (Err HousesDiffer)) p s ≡ s
    go true true e = absurd (both_ways _ e refl)
    go true false e = refl
    go false b e = refl

one_turn : (m : Meaning) (s : State) (w : ℕ) (b : Bool) → cond b (turn m s w).state s ≡ after_turns m s (cond b (w ∷ []) [])
unfolding after_turns
one_turn m s w true = refl
one_turn m s w false = refl

call_leaves : (m : Meaning) (s : State) → 0 < s.workers → (c : Call) → after_call m s c ≡ after_turns m s (turns_in s.workers c)
unfolding after_turns
call_leaves m s l (turns w) = one_turn m s w (ltb w s.workers)
call_leaves m s l (runs rs) = refl
call_leaves m s l (balance a k) = refl
call_leaves m s l (house h) = refl
call_leaves m s l (line k room) = refl
call_leaves m s l (opening p) = not_again m p s l

pub calls_leave : (m : Meaning) (s : State) → 0 < s.workers → (cs : List Call) → after m s cs ≡ after_turns m s (turns_taken s.workers cs)
unfolding after after_turns
calls_leave m s l [] = refl
calls_leave m s l (c ∷ cs) =
    let t = after_turns m s (turns_in s.workers c) in
    let e : t.workers ≡ s.workers = (turns_same m s (turns_in s.workers c)).workers in
    ap (λ (x : State). after m x cs) (call_leaves m s l c)
    ∙ calls_leave m t (omega (arith, e)) cs
    ∙ ap (λ (n : ℕ). after_turns m t (turns_taken n cs)) e
    ∙ sym (turns_append m s (turns_in s.workers c) (turns_taken s.workers cs))

-- turns called one by one
each_turn_lem : (m : Meaning) (s : State) (ws : List ℕ) → AllBelow s.workers ws → after m s (each_turn ws) ≡ after_turns m s ws
unfolding after after_turns
each_turn_lem m s [] l = refl
each_turn_lem m s (w ∷ ws) l =
    ap (λ (x : State). after m x (each_turn ws)) (taken (ltb w s.workers) refl)
    ∙ each_turn_lem m (turn m s w).state ws (subst (λ (n : ℕ). AllBelow n ws) (sym (turn_same m s w).workers) l.1)
  where
    taken : (b : Bool) → ltb w s.workers ≡ b → cond b (turn m s w).state s ≡ (turn m s w).state
    taken true e = refl
    taken false e = absurd (omega (arith, ltb-false w s.workers e, l.0))

pub run_is_turns : ARunIsItsTurns
unfolding after
run_is_turns m s rs e =
    ap (λ (o : Option RunRefusal). after_turns m s (run_turns o rs)) e ∙ sym (each_turn_lem m s (turns_of rs) (runs_below s.workers rs e))
