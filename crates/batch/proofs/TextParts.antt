-- The text grows at its end as the tables grow at theirs.
use Rattle.std.proofs.Common.{◌≡◌, ℕ, zero, suc, ◌+◌, ◌-◌, ◌<◌, ◌≤◌, Bool, true, false, cond, eqb, ◌≢◌, List, [], ◌∷◌, ◌++◌, length, get_or, take, drop, set, ℤ, pos, negsuc, sym, refl, ap, ◌∙◌, arith, eq-eqb, ne_eqb}
use Rattle.std.proofs.lemmas.List.{append_assoc, append-nil, take_rest, drop_all, length-drop, take-append-le, drop-append-le, get_or-set_same, get_or-set_other}
use Rattle.batch.specs.declared.records.Posting.{Posting}
use Rattle.batch.specs.declared.records.OrderLine.{OrderLine}
use Rattle.batch.specs.declared.records.Run.{Run}
use Rattle.batch.specs.Texts.{opening_line, opening_text, opening_texts, order_text, order_texts, posting_line, posting_texts, house_line, house_texts, run_line, run_texts, first_of, between}

-- runs and order lines

pub runs_push : (rs : List Run) (r : Run) → run_texts (rs ++ (r ∷ [])) ≡ run_texts rs ++ run_line r
unfolding run_texts
runs_push [] r = append-nil (run_line r)
runs_push (x ∷ rs) r = ap (λ l. run_line x ++ l) (runs_push rs r) ∙ sym (append_assoc (run_line x) (run_texts rs) (run_line r))

pub orders_push : (os : List OrderLine) (o : OrderLine) → order_texts (os ++ (o ∷ [])) ≡ order_texts os ++ order_text o
unfolding order_texts
orders_push [] o = append-nil (order_text o)
orders_push (x ∷ os) o = ap (λ l. order_text x ++ l) (orders_push os o) ∙ sym (append_assoc (order_text x) (order_texts os) (order_text o))

-- opening values

pub zeros_none : (k : ℕ) (vs : List ℤ) → ((j : ℕ) → get_or vs j (pos 0) ≡ pos 0) → opening_texts k vs ≡ []
unfolding opening_texts
zeros_none k [] h = refl
zeros_none k (v ∷ vs) h = ap (λ x. opening_text k x ++ opening_texts (k + 1) vs) (h 0) ∙ zeros_none (k + 1) vs (λ j. h (suc j))

opening_some : (k : ℕ) (v : ℤ) → (v ≡ pos 0 → ⊥) → opening_text k v ≡ opening_line k v
opening_some k (pos zero) h = absurd (h refl)
opening_some k (pos (suc n)) h = refl
opening_some k (negsuc n) h = refl

pub opening_push : (k : ℕ) (vs : List ℤ) (a : ℕ) (v : ℤ) → a < length vs → (v ≡ pos 0 → ⊥) → ((j : ℕ) → a ≤ j → get_or vs j (pos 0) ≡ pos 0)
    → opening_texts k (set vs a v) ≡ opening_texts k vs ++ opening_line (k + a) v
unfolding opening_texts
opening_push k [] a v l n h = absurd (omega arith)
opening_push k (x ∷ vs) zero v l n h =
    let z : opening_texts (k + 1) vs ≡ [] = zeros_none (k + 1) vs (λ j. h (suc j) (omega arith)) in
    let m : k ≡ k + 0 = omega arith in
    ap (λ t. opening_text k v ++ t) z ∙ append-nil (opening_text k v) ∙ opening_some k v n ∙ ap (λ i. opening_line i v) m
    ∙ sym (ap (λ y. (opening_text k y ++ opening_texts (k + 1) vs) ++ opening_line (k + 0) v) (h 0 (omega arith)) ∙ ap (λ t. t ++ opening_line (k + 0) v) z)
opening_push k (x ∷ vs) (suc a) v l n h =
    let m : k + 1 + a ≡ k + suc a = omega arith in
    ap (λ t. opening_text k x ++ t) (opening_push (k + 1) vs a v (omega arith) n (λ j i. h (suc j) (omega arith)))
    ∙ sym (append_assoc (opening_text k x) (opening_texts (k + 1) vs) (opening_line (k + 1 + a) v))
    ∙ ap (λ i. (opening_text k x ++ opening_texts (k + 1) vs) ++ opening_line i v) m

-- the postings of one house

abbrev pub Below : ℕ → List Posting → Type 0
Below n [] = Unit {0}
Below n (p ∷ ps) = (p.house < n) × Below n ps

abbrev pub Firsts : List Posting → ℕ → Type 0
Firsts [] n = Unit {0}
Firsts (p ∷ ps) n = (p.first ≤ n) × Firsts ps n

pub postings_none : (h : ℕ) (ps : List Posting) (os : List OrderLine) → Below h ps → posting_texts h ps os ≡ []
unfolding posting_texts
postings_none h [] os b = refl
postings_none h (p ∷ ps) os b =
    ap (λ (t : Bool). cond t (posting_line ++ order_texts (between p.first (first_of ps (length os)) os)) [] ++ posting_texts h ps os) (ne_eqb p.house h (λ z. omega (arith, b.0)))
    ∙ postings_none h ps os b.1

first_push : (ps : List Posting) (q : Posting) (n : ℕ) → q.first ≡ n → first_of (ps ++ (q ∷ [])) n ≡ first_of ps n
first_push [] q n e = e
first_push (p ∷ ps) q n e = refl

between_none : {X : Type 0} (a : ℕ) (xs : List X) → a ≡ length xs → between a (length xs) xs ≡ []
between_none a xs e = take_rest xs a ∙ drop_all a xs (omega arith)

pub postings_push : (h : ℕ) (ps : List Posting) (q : Posting) (os : List OrderLine) → q.first ≡ length os
    → posting_texts h (ps ++ (q ∷ [])) os ≡ posting_texts h ps os ++ cond (eqb q.house h) posting_line []
unfolding posting_texts order_texts
postings_push h [] q os e =
    append-nil (cond (eqb q.house h) (posting_line ++ order_texts (between q.first (length os) os)) [])
    ∙ ap (λ l. cond (eqb q.house h) (posting_line ++ order_texts l) []) (between_none q.first os e)
    ∙ ap (λ l. cond (eqb q.house h) l []) (append-nil posting_line)
postings_push h (p ∷ ps) q os e =
    let here : ℕ → List ℕ = λ n. cond (eqb p.house h) (posting_line ++ order_texts (between p.first n os)) [] in
    ap (λ n. here n ++ posting_texts h (ps ++ (q ∷ [])) os) (first_push ps q (length os) e)
    ∙ ap (λ l. here (first_of ps (length os)) ++ l) (postings_push h ps q os e)
    ∙ sym (append_assoc (here (first_of ps (length os))) (posting_texts h ps os) (cond (eqb q.house h) posting_line []))

first_some : (ps : List Posting) (q : Posting) (m n : ℕ) → first_of (ps ++ (q ∷ [])) m ≡ first_of (ps ++ (q ∷ [])) n
first_some [] q m n = refl
first_some (p ∷ ps) q m n = refl

firsts_first : (ps : List Posting) (q : Posting) (n : ℕ) → Firsts (ps ++ (q ∷ [])) n → first_of (ps ++ (q ∷ [])) n ≤ n
firsts_first [] q n f = f.0
firsts_first (p ∷ ps) q n f = f.0

between_kept : {X : Type 0} (a b : ℕ) (xs ys : List X) → a ≤ length xs → b ≤ length xs → between a b (xs ++ ys) ≡ between a b xs
between_kept a b xs ys h k = ap (take (b - a)) (drop-append-le a xs ys h) ∙ take-append-le (b - a) (drop a xs) ys (simp length-drop (omega arith))

between_more : {X : Type 0} (a : ℕ) (xs : List X) (x : X) → a ≤ length xs → between a (length (xs ++ (x ∷ []))) (xs ++ (x ∷ [])) ≡ between a (length xs) xs ++ (x ∷ [])
between_more a xs x h = take_rest (xs ++ (x ∷ [])) a ∙ drop-append-le a xs (x ∷ []) h ∙ ap (λ l. l ++ (x ∷ [])) (sym (take_rest xs a))

pub postings_order : (h : ℕ) (ps : List Posting) (q : Posting) (os : List OrderLine) (o : OrderLine) → Firsts (ps ++ (q ∷ [])) (length os)
    → posting_texts h (ps ++ (q ∷ [])) (os ++ (o ∷ [])) ≡ posting_texts h (ps ++ (q ∷ [])) os ++ cond (eqb q.house h) (order_text o) []
unfolding posting_texts
postings_order h [] q os o f =
    ap (λ l. cond (eqb q.house h) (posting_line ++ order_texts l) [] ++ []) (between_more q.first os o f.0)
    ∙ ap (λ l. cond (eqb q.house h) (posting_line ++ l) [] ++ []) (orders_push (between q.first (length os) os) o)
    ∙ go (eqb q.house h) (order_texts (between q.first (length os) os)) (order_text o)
  where
    go : (b : Bool) (xs ys : List ℕ) → cond b (posting_line ++ (xs ++ ys)) [] ++ [] ≡ (cond b (posting_line ++ xs) [] ++ []) ++ cond b ys []
    go true xs ys =
        append-nil (posting_line ++ (xs ++ ys)) ∙ sym (append_assoc posting_line xs ys) ∙ ap (λ l. l ++ ys) (sym (append-nil (posting_line ++ xs)))
    go false xs ys = refl
postings_order h (p ∷ ps) q os o f =
    let here : List OrderLine → List ℕ = λ l. cond (eqb p.house h) (posting_line ++ order_texts l) [] in
    let end = first_of (ps ++ (q ∷ [])) (length os) in
    let same : between p.first (first_of (ps ++ (q ∷ [])) (length (os ++ (o ∷ [])))) (os ++ (o ∷ [])) ≡ between p.first end os =
    ap (λ n. between p.first n (os ++ (o ∷ []))) (first_some ps q (length (os ++ (o ∷ []))) (length os))
    ∙ between_kept p.first end os (o ∷ []) f.0 (firsts_first ps q (length os) f.1) in
    ap (λ l. here l ++ posting_texts h (ps ++ (q ∷ [])) (os ++ (o ∷ []))) same
    ∙ ap (λ l. here (between p.first end os) ++ l) (postings_order h ps q os o f.1)
    ∙ sym (append_assoc (here (between p.first end os)) (posting_texts h (ps ++ (q ∷ [])) os) (cond (eqb q.house h) (order_text o) []))

-- the houses: where only house q grows, by w

abbrev pub Grows : ℕ → List ℕ → List Posting → List OrderLine → List Posting → List OrderLine → Type 0
Grows q w ps os ps' os' = (h : ℕ) → posting_texts h ps' os' ≡ posting_texts h ps os ++ cond (eqb q h) w []

houses_before : (n : ℕ) (ks : List ℕ) (q : ℕ) (w : List ℕ) (ps ps' : List Posting) (os os' : List OrderLine) → Grows q w ps os ps' os' → n ≤ q
    → house_texts n ks ps' os' ≡ house_texts n ks ps os
unfolding house_texts
houses_before zero ks q w ps ps' os os' g h = refl
houses_before (suc n) ks q w ps ps' os os' g h =
    let other : posting_texts n ps' os' ≡ posting_texts n ps os =
    g n ∙ ap (λ (b : Bool). posting_texts n ps os ++ cond b w []) (ne_eqb q n (λ z. omega arith)) ∙ append-nil (posting_texts n ps os) in
    ap (λ l. house_texts n ks ps' os' ++ (house_line n (get_or ks n 0) ++ l)) other
    ∙ ap (λ l. l ++ (house_line n (get_or ks n 0) ++ posting_texts n ps os)) (houses_before n ks q w ps ps' os os' g (omega arith))

pub houses_grow : (ks : List ℕ) (q : ℕ) (w : List ℕ) (ps ps' : List Posting) (os os' : List OrderLine) → Grows q w ps os ps' os'
    → house_texts (suc q) ks ps' os' ≡ house_texts (suc q) ks ps os ++ w
unfolding house_texts
houses_grow ks q w ps ps' os os' g =
    let a = house_texts q ks ps os in
    let l = house_line q (get_or ks q 0) in
    let p = posting_texts q ps os in
    ap (λ x. house_texts q ks ps' os' ++ (l ++ x)) (g q ∙ ap (λ (b : Bool). p ++ cond b w []) (eq-eqb q q refl))
    ∙ ap (λ x. x ++ (l ++ (p ++ w))) (houses_before q ks q w ps ps' os os' g (omega arith))
    ∙ ap (λ x. a ++ x) (sym (append_assoc l p w)) ∙ sym (append_assoc a (l ++ p) w)

-- one house more

keepers_kept : (n : ℕ) (ks : List ℕ) (m k : ℕ) (ps : List Posting) (os : List OrderLine) → n ≤ m → house_texts n (set ks m k) ps os ≡ house_texts n ks ps os
unfolding house_texts
keepers_kept zero ks m k ps os h = refl
keepers_kept (suc n) ks m k ps os h =
    ap (λ x. house_texts n (set ks m k) ps os ++ (house_line n x ++ posting_texts n ps os)) (let ne : n ≢ m = omega arith in get_or-set_other ks m n k 0 ne)
    ∙ ap (λ x. x ++ (house_line n (get_or ks n 0) ++ posting_texts n ps os)) (keepers_kept n ks m k ps os (omega arith))

pub houses_push : (n : ℕ) (ks : List ℕ) (k : ℕ) (ps : List Posting) (os : List OrderLine) → n < length ks → Below n ps
    → house_texts (suc n) (set ks n k) ps os ≡ house_texts n ks ps os ++ house_line n k
unfolding house_texts
houses_push n ks k ps os l b =
    ap (λ x. x ++ (house_line n (get_or (set ks n k) n 0) ++ posting_texts n ps os)) (keepers_kept n ks n k ps os (omega arith))
    ∙ ap (λ x. house_texts n ks ps os ++ (house_line n x ++ posting_texts n ps os)) (get_or-set_same ks n k 0 l)
    ∙ ap (λ x. house_texts n ks ps os ++ (house_line n k ++ x)) (postings_none n ps os b)
    ∙ ap (λ x. house_texts n ks ps os ++ x) (append-nil (house_line n k))
