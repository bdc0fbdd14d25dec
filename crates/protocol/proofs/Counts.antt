-- Counts and sums below a bound, and functions altered at one place.
use Rattle.std.proofs.Common.{◌≡◌, ℕ, zero, suc, ◌+◌, ◌*◌, ◌<◌, ◌≤◌, Bool, true, false, cond, eqb, ◌⊎◌, sym, refl, ap, ◌∙◌, subst, inl, inr, arith}
use Rattle.std.proofs.lemmas.Bool.{cases_eq, eq-eqb, ne_eqb}
use Rattle.protocol.specs.Counting.{one, how_many, sum_below, put}

pub one_le : (b : Bool) → one b ≤ 1
one_le true = omega arith
one_le false = omega arith

pub one_mono : (a b : Bool) → (a ≡ true → b ≡ true) → one a ≤ one b
one_mono true b h = subst (λ (x : Bool). 1 ≤ one x) (sym (h refl)) (omega arith)
one_mono false b h = omega arith

pub count_none : (p : ℕ → Bool) → how_many p 0 ≡ 0
unfolding how_many
count_none p = refl

pub count_next : (p : ℕ → Bool) (n : ℕ) → how_many p (suc n) ≡ one (p n) + how_many p n
unfolding how_many
count_next p n = refl

pub count_le : (p : ℕ → Bool) (n : ℕ) → how_many p n ≤ n
count_le p zero = omega (arith, count_none p)
count_le p (suc n) = omega (arith, count_next p n, one_le (p n), count_le p n)

pub count_mono : (p q : ℕ → Bool) (n : ℕ) → ((i : ℕ) → i < n → p i ≡ true → q i ≡ true) → how_many p n ≤ how_many q n
count_mono p q zero h = omega (arith, count_none p)
count_mono p q (suc n) h =
    omega (arith, count_next p n, count_next q n, one_mono (p n) (q n) (h n (omega arith)), count_mono p q n (λ i l. h i (omega arith)))

pub count_same : (p q : ℕ → Bool) (n : ℕ) → ((i : ℕ) → i < n → p i ≡ q i) → how_many p n ≡ how_many q n
count_same p q zero h = count_none p ∙ sym (count_none q)
count_same p q (suc n) h =
    omega (arith, count_next p n, count_next q n, ap one (h n (omega arith)), count_same p q n (λ i l. h i (omega arith)))

-- one that passes the second test and not the first
pub count_less : (p q : ℕ → Bool) (n k : ℕ) → k < n → ((i : ℕ) → i < n → p i ≡ true → q i ≡ true)
    → p k ≡ false → q k ≡ true → how_many p n < how_many q n
count_less p q zero k l h e f = omega arith
count_less p q (suc n) k l h e f = go (λ m. count_less p q n k m (λ i l. h i (omega arith)) e f) (cases_eq k n)
  where
    go : (k < n → how_many p n < how_many q n) → (k ≡ n) ⊎ (k ≡ n → ⊥) → how_many p (suc n) < how_many q (suc n)
    go ih (inl m) =
        let e' : one (p n) ≡ 0 = ap one (subst (λ (x : ℕ). p x ≡ false) m e) in
        let f' : one (q n) ≡ 1 = ap one (subst (λ (x : ℕ). q x ≡ true) m f) in
        omega (arith, count_next p n, count_next q n, count_mono p q n (λ i l. h i (omega arith)))
    go ih (inr m) =
        omega (arith, count_next p n, count_next q n, one_mono (p n) (q n) (h n (omega arith)), ih (omega arith))

-- not all pass
pub count_short : (p : ℕ → Bool) (n k : ℕ) → k < n → p k ≡ false → how_many p n < n
count_short p n k l e =
    let a = count_less p (λ i. true) n k l (λ i m f. refl) e refl in
    omega (arith, count_le (λ i. true) n)

pub count_up : (p : ℕ → Bool) (m n : ℕ) → m ≤ n → how_many p m ≤ how_many p n
count_up p m zero h = subst (λ (x : ℕ). how_many p x ≤ how_many p 0) (sym (the m h)) (omega arith)
  where
    the : (x : ℕ) → x ≤ 0 → x ≡ 0
    the x l = omega arith
count_up p m (suc n) h = go (λ l. count_up p m n l) (cases_eq m (suc n))
  where
    go : (m ≤ n → how_many p m ≤ how_many p n) → (m ≡ suc n) ⊎ (m ≡ suc n → ⊥) → how_many p m ≤ how_many p (suc n)
    go ih (inl e) = subst (λ (x : ℕ). how_many p m ≤ how_many p x) e (omega arith)
    go ih (inr e) = omega (arith, count_next p n, ih (omega arith))

-- some number below n passes
pub count_some : (p : ℕ → Bool) (n k : ℕ) → k < n → p k ≡ true → 0 < how_many p n
count_some p n k l e =
    let a = count_less (λ i. false) p n k l (λ i m f. absurd (omega (arith, ap one f))) refl e in
    omega arith

pub sum_none : (f : ℕ → ℕ) → sum_below f 0 ≡ 0
unfolding sum_below
sum_none f = refl

pub sum_next : (f : ℕ → ℕ) (n : ℕ) → sum_below f (suc n) ≡ f n + sum_below f n
unfolding sum_below
sum_next f n = refl

pub sum_le : (f g : ℕ → ℕ) (n : ℕ) → ((i : ℕ) → i < n → f i ≤ g i) → sum_below f n ≤ sum_below g n
sum_le f g zero h = omega (arith, sum_none f)
sum_le f g (suc n) h = omega (arith, sum_next f n, sum_next g n, h n (omega arith), sum_le f g n (λ i l. h i (omega arith)))

-- one of the numbers is less
pub sum_less : (f g : ℕ → ℕ) (n k : ℕ) → k < n → ((i : ℕ) → i < n → f i ≤ g i) → f k < g k → sum_below f n < sum_below g n
sum_less f g zero k l h b = omega arith
sum_less f g (suc n) k l h b = go (λ m. sum_less f g n k m (λ i l. h i (omega arith)) b) (cases_eq k n)
  where
    go : (k < n → sum_below f n < sum_below g n) → (k ≡ n) ⊎ (k ≡ n → ⊥) → sum_below f (suc n) < sum_below g (suc n)
    go ih (inl m) =
        let c : f n < g n = subst (λ (x : ℕ). f x < g x) m b in
        omega (arith, sum_next f n, sum_next g n, sum_le f g n (λ i l. h i (omega arith)))
    go ih (inr m) = omega (arith, sum_next f n, sum_next g n, h n (omega arith), ih (omega arith))

pub sum_zero : (f : ℕ → ℕ) (n : ℕ) → ((i : ℕ) → f i ≡ 0) → sum_below f n ≡ 0
sum_zero f zero h = sum_none f
sum_zero f (suc n) h = omega (arith, sum_next f n, h n, sum_zero f n h)

-- a sum of numbers that are at most b
pub sum_most : (f : ℕ → ℕ) (b n : ℕ) → ((i : ℕ) → f i ≤ b) → sum_below f n ≤ b * n
sum_most f b zero h = omega (arith, sum_none f)
sum_most f b (suc n) h = omega (arith, sum_next f n, h n, sum_most f b n h)

sum_past : (x : ℕ) (f g : ℕ → ℕ) (n : ℕ) → n ≤ x → ((h : ℕ) → g h ≡ one (eqb x h) + f h) → sum_below g n ≡ sum_below f n
sum_past x f g zero l e = sum_none g ∙ sym (sum_none f)
sum_past x f g (suc n) l e =
    omega (arith, sum_next f n, sum_next g n, e n, ap one (ne_eqb x n (omega arith)), sum_past x f g n (omega arith) e)

-- one of the numbers is greater by one
pub sum_more : (x : ℕ) (f g : ℕ → ℕ) (n : ℕ) → x < n → ((h : ℕ) → g h ≡ one (eqb x h) + f h) → sum_below g n ≡ suc (sum_below f n)
sum_more x f g zero l e = absurd (omega arith)
sum_more x f g (suc n) l e = go (λ m. sum_more x f g n m e) (cases_eq x n)
  where
    go : (x < n → sum_below g n ≡ suc (sum_below f n)) → (x ≡ n) ⊎ (x ≡ n → ⊥) → sum_below g (suc n) ≡ suc (sum_below f (suc n))
    go ih (inl q) = omega (arith, sum_next f n, sum_next g n, e n, ap one (eq-eqb x n q), sum_past x f g n (omega arith) e)
    go ih (inr q) = omega (arith, sum_next f n, sum_next g n, e n, ap one (ne_eqb x n q), ih (omega arith))

pub put_same : {A : Type 0} (f : ℕ → A) (i : ℕ) (x : A) → put f i x i ≡ x
unfolding put
put_same f i x = ap (λ b. cond b x (f i)) (eq-eqb i i refl)

pub put_other : {A : Type 0} (f : ℕ → A) (i : ℕ) (x : A) (j : ℕ) → (i ≡ j → ⊥) → put f i x j ≡ f j
unfolding put
put_other f i x j h = ap (λ b. cond b x (f j)) (ne_eqb i j h)

-- what holds of the new value, and of the others, holds everywhere
pub put_all : {A : Type 0} (P : ℕ → A → Type 0) (f : ℕ → A) (i : ℕ) (x : A)
    → P i x → ((j : ℕ) → (i ≡ j → ⊥) → P j (f j)) → (j : ℕ) → P j (put f i x j)
put_all P f i x px pf j = go (cases_eq i j)
  where
    go : (i ≡ j) ⊎ (i ≡ j → ⊥) → P j (put f i x j)
    go (inl e) = subst (λ (k : ℕ). P k (put f i x k)) e (rw put_same px)
    go (inr e) = rw (put_other f i x j e) (pf j e)
