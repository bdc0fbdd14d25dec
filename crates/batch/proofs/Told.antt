-- An accepted text is the text of its plan and its tables.
use Rattle.std.proofs.Common.{◌≡◌, ℕ, suc, ◌+◌, ◌-◌, ◌<◌, ◌≤◌, true, eqb, ◌≢◌, List, [], ◌∷◌, ◌++◌, length, get_or, set, replicate, pos, Some, Ok, Err, Result, sym, refl, ap, ◌∙◌, subst, add-one, arith, eqb-true}
use Rattle.std.proofs.lemmas.List.{append_assoc, append-nil, length-set, length-append, get_or-set_other}
use Rattle.batch.specs.declared.records.Posting.{Posting}
use Rattle.batch.specs.declared.records.OrderLine.{OrderLine}
use Rattle.batch.specs.declared.records.Run.{Run}
use Rattle.std.proofs.lemmas.Bool.{and_parts}
use Rattle.batch.specs.declared.items.Kind.{Kind}
use Rattle.batch.specs.declared.items.Head.{Head}
use Rattle.batch.specs.declared.items.Opens.{Opens}
use Rattle.batch.specs.declared.items.Fault.{Fault}
use Rattle.batch.specs.declared.items.BatchRefusal.{BatchRefusal}
use Rattle.batch.specs.declared.items.Mark.{Mark}
use Rattle.batch.specs.declared.progress.Progress.{Progress}
use Rattle.batch.specs.declared.items.Mark.TheVariants.{Begin, Opening, House, Posting as PostingMark, Order, Run as RunMark}
use Rattle.batch.specs.declared.items.Item.{Item}
use Rattle.batch.specs.declared.items.Item.TheVariants.{Begins, Opened, Kept, Posts, Orders, Runs}
use Rattle.batch.specs.declared.progress.Stage.{Stage}
use Rattle.batch.specs.declared.progress.Stage.TheVariants.{Start, Heading, Housing, Drafting, Running}
use Rattle.batch.specs.declared.progress.Sizes.{Sizes}
use Rattle.batch.specs.Limits.{Allowed, kind_of}
use Rattle.batch.specs.Marks.{follows, mark_in}
use Rattle.batch.specs.Parts.{fields, lines}
use Rattle.batch.specs.Reading.{said, batch, answered, Lawful}
use Rattle.batch.specs.Refusals.{refusal_at}
use Rattle.batch.specs.Rules.{judged, said_by}
use Rattle.roll.specs.declared.Roll.{Roll}
use Rattle.roll.specs.Rolls.{items}
use Rattle.batch.specs.Plans.{Terms, planned, plan_after}
use Rattle.batch.specs.Progress.{sofar, stage_after, houses_in, account_after}
use Rattle.batch.specs.Tables.{seen_in, postings_in, orders_in, runs_in, Tabled}
use Rattle.batch.specs.Texts.{head_line, opening_line, opening_texts, house_line, house_texts, posting_line, order_text, run_line, run_texts, text_upto, batch_text, text_of, WritesBack, OneWay}
use Rattle.batch.proofs.Accepted.{tested_ok, same_ok}
use Rattle.batch.proofs.Back.{written, text_written, accepted, any_length, same_past}
use Rattle.batch.proofs.Rolling.{planned_houses, batch_ok}
use Rattle.batch.proofs.TextParts.{runs_push, zeros_none, opening_push, Below, Firsts, postings_push, postings_order, houses_grow, houses_push}
use Rattle.batch.proofs.Zeros.{all_same}

-- what the last line tells of the tables
abbrev pub At : Stage → List Item → Type 0
At Start past = past ≡ []
At Heading past = (seen_in past ≡ 0) × (runs_in past ≡ [])
At Housing past = (1 ≤ seen_in past) × (runs_in past ≡ [])
At Drafting past = ((1 ≤ seen_in past) × (runs_in past ≡ [])) × ((ps : List Posting) × (q : Posting) × (postings_in past ≡ ps ++ (q ∷ [])) × (suc q.house ≡ seen_in past))
At Running past = Unit {0}

-- the text so far, once there is a line
abbrev pub Texted : List Item → Type 0
Texted [] = Unit {0}
Texted (i ∷ past) =
    written (i ∷ past) ≡ text_upto (seen_in (i ∷ past)) (planned (i ∷ past)) (postings_in (i ∷ past)) (orders_in (i ∷ past)) (runs_in (i ∷ past))

pub record State (past : List Item) : Type 0 where
  pub houses : houses_in past ≤ 16
  pub keepers : length (planned past).keepers ≡ 16
  pub accounts : length (planned past).openings ≡ 64
  pub zeros : (j : ℕ) → account_after past ≤ j → get_or (planned past).openings j (pos 0) ≡ pos 0
  pub below : Below (seen_in past) (postings_in past)
  pub firsts : Firsts (postings_in past) (length (orders_in past))
  pub at : At (stage_after past) past
  pub text : Texted past

-- where each mark may stand

pub begin_at : (s : Stage) → follows Begin s ≡ true → s ≡ Start
begin_at Start e = refl
begin_at Heading e = absurd (let z : ◌≡◌ {A = ℕ} 0 1 = cc in omega arith)
begin_at Housing e = absurd (let z : ◌≡◌ {A = ℕ} 0 1 = cc in omega arith)
begin_at Drafting e = absurd (let z : ◌≡◌ {A = ℕ} 0 1 = cc in omega arith)
begin_at Running e = absurd (let z : ◌≡◌ {A = ℕ} 0 1 = cc in omega arith)

opening_at : (s : Stage) → follows Opening s ≡ true → s ≡ Heading
opening_at Start e = absurd (let z : ◌≡◌ {A = ℕ} 0 1 = cc in omega arith)
opening_at Heading e = refl
opening_at Housing e = absurd (let z : ◌≡◌ {A = ℕ} 0 1 = cc in omega arith)
opening_at Drafting e = absurd (let z : ◌≡◌ {A = ℕ} 0 1 = cc in omega arith)
opening_at Running e = absurd (let z : ◌≡◌ {A = ℕ} 0 1 = cc in omega arith)

house_at : (s : Stage) (past : List Item) → follows House s ≡ true → At s past → (runs_in past ≡ []) × (s ≢ Start)
house_at Start past e a = absurd (let z : ◌≡◌ {A = ℕ} 0 1 = cc in omega arith)
house_at Heading past e a = (a.1, λ k. (let z : ◌≡◌ {A = ℕ} 0 1 = cc in omega arith))
house_at Housing past e a = (a.1, λ k. (let z : ◌≡◌ {A = ℕ} 0 1 = cc in omega arith))
house_at Drafting past e a = (a.0.1, λ k. (let z : ◌≡◌ {A = ℕ} 0 1 = cc in omega arith))
house_at Running past e a = absurd (let z : ◌≡◌ {A = ℕ} 0 1 = cc in omega arith)

pub posting_at_lem : (s : Stage) (past : List Item) → follows PostingMark s ≡ true → At s past → (1 ≤ seen_in past) × (runs_in past ≡ [])
posting_at_lem Start past e a = absurd (let z : ◌≡◌ {A = ℕ} 0 1 = cc in omega arith)
posting_at_lem Heading past e a = absurd (let z : ◌≡◌ {A = ℕ} 0 1 = cc in omega arith)
posting_at_lem Housing past e a = a
posting_at_lem Drafting past e a = a.0
posting_at_lem Running past e a = absurd (let z : ◌≡◌ {A = ℕ} 0 1 = cc in omega arith)

pub order_at_lem : (k : Kind) (s : Stage) → follows (Order k) s ≡ true → s ≡ Drafting
order_at_lem k Start e = absurd (let z : ◌≡◌ {A = ℕ} 0 1 = cc in omega arith)
order_at_lem k Heading e = absurd (let z : ◌≡◌ {A = ℕ} 0 1 = cc in omega arith)
order_at_lem k Housing e = absurd (let z : ◌≡◌ {A = ℕ} 0 1 = cc in omega arith)
order_at_lem k Drafting e = refl
order_at_lem k Running e = absurd (let z : ◌≡◌ {A = ℕ} 0 1 = cc in omega arith)

posting_begun : (s : Stage) → follows PostingMark s ≡ true → s ≢ Start
posting_begun Start e k = let z : ◌≡◌ {A = ℕ} 0 1 = cc in omega arith
posting_begun Heading e k = let z : ◌≡◌ {A = ℕ} 0 1 = cc in omega arith
posting_begun Housing e k = let z : ◌≡◌ {A = ℕ} 0 1 = cc in omega arith
posting_begun Drafting e k = let z : ◌≡◌ {A = ℕ} 0 1 = cc in omega arith
posting_begun Running e k = let z : ◌≡◌ {A = ℕ} 0 1 = cc in omega arith

zero_plus : (n : ℕ) → n ≡ 0 + n
zero_plus n = omega arith

run_at : (s : Stage) → follows RunMark s ≡ true → s ≢ Start
run_at Start e k = let z : ◌≡◌ {A = ℕ} 0 1 = cc in omega arith
run_at Heading e k = let z : ◌≡◌ {A = ℕ} 0 1 = cc in omega arith
run_at Housing e k = let z : ◌≡◌ {A = ℕ} 0 1 = cc in omega arith
run_at Drafting e k = let z : ◌≡◌ {A = ℕ} 0 1 = cc in omega arith
run_at Running e k = let z : ◌≡◌ {A = ℕ} 0 1 = cc in omega arith

-- the text of some lines
texted : (past : List Item) → (stage_after past ≢ Start) → Texted past → written past ≡ text_upto (seen_in past) (planned past) (postings_in past) (orders_in past) (runs_in past)
texted [] n t = absurd (n refl)
texted (i ∷ past) n t = t

-- tables that do not grow
same_text : (n : ℕ) (p : Terms) (ps ps' : List Posting) (os os' : List OrderLine) (rs rs' : List Run) → ps' ≡ ps → os' ≡ os → rs' ≡ rs → text_upto n p ps os rs ≡ text_upto n p ps' os' rs'
same_text n p ps ps' os os' rs rs' a b c = cc

same_below : (n : ℕ) (ps : List Posting) → Below n ps → Below n (ps ++ [])
same_below n ps b = subst (Below n) (sym (append-nil ps)) b

same_firsts : (ps : List Posting) (os : List OrderLine) → Firsts ps (length os) → Firsts (ps ++ []) (length (os ++ []))
same_firsts ps os f = subst (λ l. Firsts (ps ++ []) (length l)) (sym (append-nil os)) (subst (λ l. Firsts l (length os)) (sym (append-nil ps)) f)

-- more houses or order lines only leave more room

below_more : (n : ℕ) (ps : List Posting) → Below n ps → Below (n + 1) ps
below_more n [] b = tt
below_more n (p ∷ ps) b = (omega (arith, b.0), below_more n ps b.1)

below_push : (n : ℕ) (ps : List Posting) (q : Posting) → q.house < n → Below n ps → Below n (ps ++ (q ∷ []))
below_push n [] q h b = (h, tt)
below_push n (p ∷ ps) q h b = (b.0, below_push n ps q h b.1)

firsts_more : (ps : List Posting) (n m : ℕ) → n ≤ m → Firsts ps n → Firsts ps m
firsts_more [] n m h f = tt
firsts_more (p ∷ ps) n m h f = (omega (arith, f.0), firsts_more ps n m h f.1)

firsts_push : (ps : List Posting) (q : Posting) (n : ℕ) → q.first ≤ n → Firsts ps n → Firsts (ps ++ (q ∷ [])) n
firsts_push [] q n h f = (h, tt)
firsts_push (p ∷ ps) q n h f = (f.0, firsts_push ps q n h f.1)

-- texts put together again

into_third : (a b c w : List ℕ) → (a ++ (b ++ (c ++ []))) ++ w ≡ a ++ (b ++ ((c ++ w) ++ []))
into_third a b c w = simp (append_assoc, append-nil)

into_last : (a b c d w : List ℕ) → (a ++ (b ++ (c ++ d))) ++ w ≡ a ++ (b ++ (c ++ (d ++ w)))
into_last a b c d w = simp append_assoc

into_second : (a b w : List ℕ) → (a ++ (b ++ ([] ++ []))) ++ w ≡ a ++ ((b ++ w) ++ ([] ++ []))
into_second a b w = simp (append_assoc, append-nil)

third : (a b c w : List ℕ) (rs : List Run) → rs ≡ [] → (a ++ (b ++ (c ++ run_texts rs))) ++ w ≡ a ++ (b ++ ((c ++ w) ++ run_texts rs))
unfolding run_texts
third a b c w rs e =
    ap (λ r. (a ++ (b ++ (c ++ run_texts r))) ++ w) e ∙ into_third a b c w ∙ ap (λ r. a ++ (b ++ ((c ++ w) ++ run_texts r))) (sym e)

head_text_lem : (n : ℕ) (p : Terms) (ps : List Posting) (os : List OrderLine) (rs : List Run) → n ≡ 0 → rs ≡ []
    → text_upto n p ps os rs ≡ head_line p.houses p.workers p.patience ++ (opening_texts 0 p.openings ++ ([] ++ []))
unfolding house_texts run_texts
head_text_lem n p ps os rs e f = ap (λ m. text_upto m p ps os rs) e ∙ ap (λ r. text_upto 0 p ps os r) f

-- one line more

begins_state : (t : Sizes) (h : Head) → Allowed t (sofar []) (Begins h) → State (Begins h ∷ [])
unfolding written house_texts run_texts
begins_state t h a =
    let line = head_line h.houses h.workers h.patience in
    record {
      houses = a.within.0.1;
      keepers = refl;
      accounts = refl;
      zeros = λ j l. all_same 64 j (pos 0);
      below = tt;
      firsts = tt;
      at = (refl, refl);
      text = sym (append-nil line) ∙ ap (λ l. line ++ (l ++ ([] ++ []))) (sym (zeros_none 0 (replicate 64 (pos 0)) (λ j. all_same 64 j (pos 0))));
    }

opened_state : (t : Sizes) (past : List Item) (o : Opens) → State past → Allowed t (sofar past) (Opened o) → State (Opened o ∷ past)
unfolding written
opened_state t past o s a =
    let p = planned past in
    let ps = postings_in past in let os = orders_in past in let rs = runs_in past in
    let w = a.within in
    let e = opening_at (stage_after past) a.place in
    let here : At Heading past = subst (λ x. At x past) e s.at in
    let ne : stage_after past ≢ Start = λ k. (let z : ◌≡◌ {A = ℕ} 0 1 = cc in omega arith) in
    let head = head_line p.houses p.workers p.patience in
    let old = opening_texts 0 p.openings in
    let new = opening_line o.account o.cents in
    let pushed : old ++ new ≡ opening_texts 0 (set p.openings o.account o.cents) =
    ap (λ k. old ++ opening_line k o.cents) (zero_plus o.account)
    ∙ sym (opening_push 0 p.openings o.account o.cents (omega (arith, s.accounts, w.1)) w.3 (λ j l. s.zeros j (omega (arith, w.0)))) in
    record {
      houses = s.houses;
      keepers = s.keepers;
      accounts = length-set p.openings o.account o.cents ∙ s.accounts;
      zeros = λ j l. (let apart : j ≢ o.account = omega arith in get_or-set_other p.openings o.account j o.cents (pos 0) apart ∙ s.zeros j (omega (arith, w.0)));
      below = same_below (seen_in past) ps s.below;
      firsts = same_firsts ps os s.firsts;
      at = (here.0, append-nil rs ∙ here.1);
      text = ap (λ x. x ++ new) (texted past ne s.text ∙ head_text_lem (seen_in past) p ps os rs here.0 here.1)
          ∙ into_second head old new ∙ ap (λ x. head ++ (x ++ ([] ++ []))) pushed
          ∙ sym (head_text_lem (seen_in past) (planned (Opened o ∷ past)) (ps ++ []) (os ++ []) (rs ++ []) here.0 (append-nil rs ∙ here.1));
    }

kept_state : (t : Sizes) (past : List Item) (k : ℕ) → State past → Allowed t (sofar past) (Kept k) → State (Kept k ∷ past)
unfolding written
kept_state t past k s a =
    let p = planned past in
    let ps = postings_in past in let os = orders_in past in let rs = runs_in past in
    let n = seen_in past in
    let w = a.within in
    let here = house_at (stage_after past) past a.place s.at in
    let head = head_line p.houses p.workers p.patience in
    let old = opening_texts 0 p.openings in
    let pushed : house_texts n p.keepers ps os ++ house_line n k ≡ house_texts (n + 1) (set p.keepers n k) ps os =
    sym (houses_push n p.keepers k ps os (omega (arith, s.keepers, s.houses, w.0)) s.below) ∙ ap (λ m. house_texts m (set p.keepers n k) ps os) (sym (add-one n)) in
    record {
      houses = s.houses;
      keepers = length-set p.keepers n k ∙ s.keepers;
      accounts = s.accounts;
      zeros = s.zeros;
      below = same_below (n + 1) ps (below_more n ps s.below);
      firsts = same_firsts ps os s.firsts;
      at = (omega arith, append-nil rs ∙ here.0);
      text = ap (λ x. x ++ house_line n k) (texted past here.1 s.text)
          ∙ third head old (house_texts n p.keepers ps os) (house_line n k) rs here.0 ∙ ap (λ x. head ++ (old ++ (x ++ run_texts rs))) pushed
          ∙ same_text (n + 1) (planned (Kept k ∷ past)) ps (ps ++ []) os (os ++ []) rs (rs ++ []) (append-nil ps) (append-nil os) (append-nil rs);
    }

posts_state : (t : Sizes) (past : List Item) → State past → Allowed t (sofar past) Posts → State (Posts ∷ past)
unfolding written
posts_state t past s a =
    let p = planned past in
    let ps = postings_in past in let os = orders_in past in let rs = runs_in past in
    let n = seen_in past in
    let q : Posting = record { house = n - 1; first = length os } in
    let here = posting_at_lem (stage_after past) past a.place s.at in
    let ne = posting_begun (stage_after past) a.place in
    let head = head_line p.houses p.workers p.patience in
    let old = opening_texts 0 p.openings in
    let last : suc (n - 1) ≡ n = omega (arith, here.0) in
    let pushed : house_texts n p.keepers ps os ++ posting_line ≡ house_texts n p.keepers (ps ++ (q ∷ [])) os =
    ap (λ m. house_texts m p.keepers ps os ++ posting_line) (sym last)
    ∙ sym (houses_grow p.keepers (n - 1) posting_line ps (ps ++ (q ∷ [])) os os (λ h. postings_push h ps q os refl))
    ∙ ap (λ m. house_texts m p.keepers (ps ++ (q ∷ [])) os) last in
    record {
      houses = s.houses;
      keepers = s.keepers;
      accounts = s.accounts;
      zeros = s.zeros;
      below = below_push n ps q (omega (arith, here.0)) s.below;
      firsts = firsts_more (ps ++ (q ∷ [])) (length os) (length (os ++ [])) (omega (arith, ap length (append-nil os))) (firsts_push ps q (length os) (omega arith) s.firsts);
      at = ((here.0, append-nil rs ∙ here.1), (ps, q, refl, last));
      text = ap (λ x. x ++ posting_line) (texted past ne s.text)
          ∙ third head old (house_texts n p.keepers ps os) posting_line rs here.1 ∙ ap (λ x. head ++ (old ++ (x ++ run_texts rs))) pushed
          ∙ same_text n p (ps ++ (q ∷ [])) (ps ++ (q ∷ [])) os (os ++ []) rs (rs ++ []) refl (append-nil os) (append-nil rs);
    }

orders_state : (t : Sizes) (past : List Item) (o : OrderLine) → State past → Allowed t (sofar past) (Orders o) → State (Orders o ∷ past)
unfolding written
orders_state t past o s a =
    let p = planned past in
    let ps = postings_in past in let os = orders_in past in let rs = runs_in past in
    let n = seen_in past in
    let e = order_at_lem (kind_of o) (stage_after past) a.place in
    let here : At Drafting past = subst (λ x. At x past) e s.at in
    let ne : stage_after past ≢ Start = λ k. (let z : ◌≡◌ {A = ℕ} 0 1 = cc in omega arith) in
    let qs = here.1.0 in let q = here.1.1 in
    let head = head_line p.houses p.workers p.patience in
    let old = opening_texts 0 p.openings in
    let firsts : Firsts (qs ++ (q ∷ [])) (length os) = subst (λ l. Firsts l (length os)) here.1.2 s.firsts in
    let pushed : house_texts n p.keepers ps os ++ order_text o ≡ house_texts n p.keepers ps (os ++ (o ∷ [])) =
    ap (λ l. house_texts n p.keepers l os ++ order_text o) here.1.2
    ∙ ap (λ m. house_texts m p.keepers (qs ++ (q ∷ [])) os ++ order_text o) (sym here.1.3)
    ∙ sym (houses_grow p.keepers q.house (order_text o) (qs ++ (q ∷ [])) (qs ++ (q ∷ [])) os (os ++ (o ∷ [])) (λ h. postings_order h qs q os o firsts))
    ∙ ap (λ m. house_texts m p.keepers (qs ++ (q ∷ [])) (os ++ (o ∷ []))) here.1.3
    ∙ ap (λ l. house_texts n p.keepers l (os ++ (o ∷ []))) (sym here.1.2) in
    record {
      houses = s.houses;
      keepers = s.keepers;
      accounts = s.accounts;
      zeros = s.zeros;
      below = same_below n ps s.below;
      firsts = firsts_more (ps ++ []) (length os) (length (os ++ (o ∷ []))) (omega (arith, length-append os (o ∷ []))) (subst (λ l. Firsts l (length os)) (sym (append-nil ps)) s.firsts);
      at = ((here.0.0, append-nil rs ∙ here.0.1), (qs, q, append-nil ps ∙ here.1.2, here.1.3));
      text = ap (λ x. x ++ order_text o) (texted past ne s.text)
          ∙ third head old (house_texts n p.keepers ps os) (order_text o) rs here.0.1 ∙ ap (λ x. head ++ (old ++ (x ++ run_texts rs))) pushed
          ∙ same_text n p ps (ps ++ []) (os ++ (o ∷ [])) (os ++ (o ∷ [])) rs (rs ++ []) (append-nil ps) refl (append-nil rs);
    }

runs_state : (t : Sizes) (past : List Item) (r : Run) → State past → Allowed t (sofar past) (Runs r) → State (Runs r ∷ past)
unfolding written
runs_state t past r s a =
    let p = planned past in
    let ps = postings_in past in let os = orders_in past in let rs = runs_in past in
    let n = seen_in past in
    let ne = run_at (stage_after past) a.place in
    let head = head_line p.houses p.workers p.patience in
    let old = opening_texts 0 p.openings in
    record {
      houses = s.houses;
      keepers = s.keepers;
      accounts = s.accounts;
      zeros = s.zeros;
      below = same_below n ps s.below;
      firsts = same_firsts ps os s.firsts;
      at = tt;
      text = ap (λ x. x ++ run_line r) (texted past ne s.text)
          ∙ into_last head old (house_texts n p.keepers ps os) (run_texts rs) (run_line r)
          ∙ ap (λ x. head ++ (old ++ (house_texts n p.keepers ps os ++ x))) (sym (runs_push rs r))
          ∙ same_text n p ps (ps ++ []) os (os ++ []) (rs ++ (r ∷ [])) (rs ++ (r ∷ [])) (append-nil ps) (append-nil os) refl;
    }

-- all lines

pub lawful_state : (t : Sizes) (past : List Item) → Lawful t past → State past
lawful_state t [] w = record { houses = omega arith; keepers = refl; accounts = refl; zeros = λ j l. all_same 64 j (pos 0); below = tt; firsts = tt; at = refl; text = tt }
lawful_state t (Begins h ∷ past) w =
    let none : past ≡ [] = subst (λ x. At x past) (begin_at (stage_after past) w.0.place) (lawful_state t past w.1).at in
    subst (λ x. State (Begins h ∷ x)) (sym none) (begins_state t h (subst (λ x. Allowed t (sofar x) (Begins h)) none w.0))
lawful_state t (Opened o ∷ past) w = opened_state t past o (lawful_state t past w.1) w.0
lawful_state t (Kept k ∷ past) w = kept_state t past k (lawful_state t past w.1) w.0
lawful_state t (Posts ∷ past) w = posts_state t past (lawful_state t past w.1) w.0
lawful_state t (Orders o ∷ past) w = orders_state t past o (lawful_state t past w.1) w.0
lawful_state t (Runs r ∷ past) w = runs_state t past r (lawful_state t past w.1) w.0

begun : (past : List Item) → seen_in past ≡ houses_in past → stage_after past ≢ Start
begun [] e k = omega arith
begun (Begins h ∷ past) e k = let z : ◌≡◌ {A = ℕ} 0 1 = cc in omega arith
begun (Opened o ∷ past) e k = let z : ◌≡◌ {A = ℕ} 0 1 = cc in omega arith
begun (Kept h ∷ past) e k = let z : ◌≡◌ {A = ℕ} 0 1 = cc in omega arith
begun (Posts ∷ past) e k = let z : ◌≡◌ {A = ℕ} 0 1 = cc in omega arith
begun (Orders o ∷ past) e k = let z : ◌≡◌ {A = ℕ} 0 1 = cc in omega arith
begun (Runs r ∷ past) e k = let z : ◌≡◌ {A = ℕ} 0 1 = cc in omega arith

pub written_text : (t : Sizes) (past : List Item) → Lawful t past → seen_in past ≡ houses_in past → written past ≡ text_of past
written_text t past w all =
    texted past (begun past all) (lawful_state t past w).text
    ∙ ap (λ n. text_upto n (planned past) (postings_in past) (orders_in past) (runs_in past)) (all ∙ sym (planned_houses past))

pub writes_back : WritesBack
writes_back t text past e =
    let any = any_length t text past e in
    let r = text_written t text past any in
    let all : seen_in past ≡ houses_in past = eqb-true (seen_in past) (houses_in past) (and_parts (eqb (get_or text (length text - 1) 0) 10) _ (accepted t text past any).1).1 in
    r.0 ∙ written_text t past r.1 all

-- one way to read a text

pub said_cons : (t : Sizes) (past : List Item) (l : List ℕ) (ls : List (List ℕ)) (p : List Item) → said t past (l ∷ ls) ≡ Ok p
    → (i : Item) × (judged t (sofar past) (fields l) ≡ Ok i) × (said t (i ∷ past) ls ≡ Ok p)
said_cons t past l ls p e = go (judged t (sofar past) (fields l)) refl e
  where
    go : (v : Result Item Fault) → judged t (sofar past) (fields l) ≡ v
        → ◌≡◌ {A = Result (List Item) BatchRefusal} (elim v [ Ok i ↦ said t (i ∷ past) ls | Err f ↦ Err (refusal_at (length past + 1) f) ]) (Ok p)
        → (i : Item) × (judged t (sofar past) (fields l) ≡ Ok i) × (said t (i ∷ past) ls ≡ Ok p)
    go (Ok i) j h = (i, j, h)
    go (Err f) j h = absurd (let z : ◌≡◌ {A = ℕ} 0 1 = cc in omega arith)

same_item : (t u : Sizes) (s : Progress) (fs : List (List ℕ)) (i j : Item) → judged t s fs ≡ Ok i → judged u s fs ≡ Ok j → i ≡ j
same_item t u s fs i j e f =
    let a = tested_ok t s (length fs) (mark_in (get_or fs 0 [])) (get_or fs 1 []) (get_or fs 2 []) (get_or fs 3 []) i e in
    let b = tested_ok u s (length fs) (mark_in (get_or fs 0 [])) (get_or fs 1 []) (get_or fs 2 []) (get_or fs 3 []) j f in
    let m : a.0 ≡ b.0 = same_mark a.0 b.0 (sym a.1 ∙ b.1) in
    same_ok i j (sym a.2.says ∙ ap (λ x. said_by s x (get_or fs 1 []) (get_or fs 2 []) (get_or fs 3 [])) m ∙ b.2.says)
  where
    same_mark : (m n : Mark) → Some m ≡ Some n → m ≡ n
    same_mark m n e = cc

said_once : (t u : Sizes) (past : List Item) (ls : List (List ℕ)) (p q : List Item) → said t past ls ≡ Ok p → said u past ls ≡ Ok q → p ≡ q
said_once t u past [] p q e f = same_past p q (sym e ∙ f)
said_once t u past (l ∷ ls) p q e f =
    let a = said_cons t past l ls p e in
    let b = said_cons u past l ls q f in
    let same = same_item t u (sofar past) (fields l) a.0 b.0 a.1 b.1 in
    said_once t u (a.0 ∷ past) ls p q a.2 (ap (λ i. said u (i ∷ past) ls) same ∙ b.2)

pub one_way : OneWay
one_way t u text p q e f = said_once t u [] (lines text) p q (accepted t text p (any_length t text p e)).0 (accepted u text q (any_length u text q f)).0

-- the text of a plan and tables that an accepted batch filled
pub filled_text : (t : Sizes) (text : List ℕ) (old new : Terms) (ps ps' : Roll Posting) (os os' : Roll OrderLine) (rs rs' : Roll Run) → answered (batch t text) ≡ Ok tt
    → new ≡ plan_after old (batch t text) → Tabled postings_in (batch t text) ps ps' → Tabled orders_in (batch t text) os os' → Tabled runs_in (batch t text) rs rs'
    → text ≡ batch_text new (items ps') (items os') (items rs')
filled_text t text old new ps ps' os os' rs rs' h p a b c =
    let q = batch_ok t text h in
    let past = q.0 in
    let plan : new ≡ planned past = p ∙ ap (plan_after old) q.2 in
    let x = subst (λ r. Tabled postings_in r ps ps') q.2 a in
    let y = subst (λ r. Tabled orders_in r os os') q.2 b in
    let z = subst (λ r. Tabled runs_in r rs rs') q.2 c in
    writes_back t text past q.2
    ∙ ap (λ m. batch_text m (postings_in past) (orders_in past) (runs_in past)) (sym plan)
    ∙ ap (λ l. batch_text new l (orders_in past) (runs_in past)) (sym x.list)
    ∙ ap (λ l. batch_text new (items ps') l (runs_in past)) (sym y.list)
    ∙ ap (λ l. batch_text new (items ps') (items os') l) (sym z.list)
