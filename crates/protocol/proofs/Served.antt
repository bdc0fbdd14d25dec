-- The functions that tell who is served next say what the rules say in words.
use Rattle.std.proofs.Common.{◌≡◌, ℕ, zero, suc, ◌+◌, ◌-◌, ◌<◌, ◌≤◌, Bool, true, false, cond, ltb, leb, ◌⊎◌, Some, None, Decides, Option, sym, refl, ap, subst, inl, inr, arith}
use Rattle.std.proofs.lemmas.Bool.{cases_eq, cases_lt, both_ways, ltb-true, ltb-false, leb-true, le-leb, lt-leb}
use Rattle.std.proofs.lemmas.Bool.Decides.{Decides-eqb, Decides-ltb, Decides-and, Decides-not}
use Rattle.posting.specs.Sources.{Meaning}
use Rattle.protocol.specs.State.{State}
use Rattle.protocol.specs.Serving.{Open, Asks, AsksFirst, Keeps, KeepsNext, steps_from, house_is_open, asks_for, sooner, soonest, keeps_open, first_from, or_else, next_kept}

decides_leb : (a b : ℕ) → Decides (leb a b) (a ≤ b)
decides_leb a b = (leb-true a b, le-leb a b)

-- a test decides what is the same
decides_as : {P Q : Type 0} (b : Bool) → (P → Q) → (Q → P) → Decides b P → Decides b Q
decides_as b f g d = (λ e. f (d.0 e), λ q. d.1 (g q))

pub decides_open : (m : Meaning) (s : State) (g : ℕ) → Decides (house_is_open m s g) (Open m s g)
decides_open m s g =
    decides_as (house_is_open m s g) (λ p. record { known = p.0; left = p.1 }) (λ o. (o.known, o.left))
    (Decides-and _ _ (Decides-ltb g s.houses) (decides_leb (s.house g).number (m.postings g)))

pub decides_asks : (m : Meaning) (s : State) (w g : ℕ) → Decides (asks_for m s w g) (Asks m s w g)
decides_asks m s w g =
    decides_as (asks_for m s w g) (λ p. record { is_open = p.1.0; dated = p.0; unsettled = p.1.1 }) (λ a. (a.dated, (a.is_open, a.unsettled)))
    (Decides-and _ _ (Decides-ltb 0 (s.house g).date)
    (Decides-and _ _ (decides_open m s g) (Decides-not _ (Decides-eqb ((s.worker w).settled g) (s.house g).number))))

pub decides_keeps : (m : Meaning) (s : State) (w g : ℕ) → Decides (keeps_open m s w g) (Keeps m s w g)
decides_keeps m s w g =
    decides_as (keeps_open m s w g) (λ p. record { is_open = p.1; keeper = p.0 }) (λ k. (k.keeper, k.is_open))
    (Decides-and _ _ (Decides-eqb (s.keeper g) w) (decides_open m s g))

-- of the houses below n that ask, the smallest date
abbrev Soonest : (m : Meaning) (s : State) (w n : ℕ) → Option ℕ → Type 0
Soonest m s w n None = (k : ℕ) → k < n → asks_for m s w k ≡ true → ⊥
Soonest m s w n (Some g) =
    (g < n) × (asks_for m s w g ≡ true) × ((k : ℕ) → k < n → asks_for m s w k ≡ true → (s.house g).date ≤ (s.house k).date)

below_more : (P : ℕ → Type 0) (n : ℕ) → ((k : ℕ) → k < n → P k) → P n → (k : ℕ) → k < suc n → P k
below_more P n f p k l = go (cases_eq k n)
  where
    go : (k ≡ n) ⊎ (k ≡ n → ⊥) → P k
    go (inl e) = subst P (sym e) p
    go (inr e) = f k (omega arith)

sooner_says : (m : Meaning) (s : State) (w n : ℕ) (b : Bool) → asks_for m s w n ≡ b → (o : Option ℕ) → Soonest m s w n o → Soonest m s w (suc n) (sooner s b n o)
sooner_says m s w n false e None h = below_more (λ k. asks_for m s w k ≡ true → ⊥) n h (λ f. both_ways _ e f)
sooner_says m s w n false e (Some g) h =
    (omega (arith, h.0), h.1, below_more (λ k. asks_for m s w k ≡ true → (s.house g).date ≤ (s.house k).date) n h.2 (λ f. absurd (both_ways _ e f)))
sooner_says m s w n true e None h =
    (omega arith, e, below_more (λ k. asks_for m s w k ≡ true → (s.house n).date ≤ (s.house k).date) n (λ k l f. absurd (h k l f)) (λ f. omega arith))
sooner_says m s w n true e (Some j) h = go (ltb (s.house n).date (s.house j).date) refl
  where
    go : (x : Bool) → ltb (s.house n).date (s.house j).date ≡ x → Soonest m s w (suc n) (cond x (Some n) (Some j))
    go true f = (omega arith, e, below_more (λ k. asks_for m s w k ≡ true → (s.house n).date ≤ (s.house k).date) n (λ k l c. omega (arith, h.2 k l c, ltb-true _ _ f)) (λ c. omega arith))
    go false f = (omega (arith, h.0), h.1, below_more (λ k. asks_for m s w k ≡ true → (s.house j).date ≤ (s.house k).date) n h.2 (λ c. ltb-false _ _ f))

soonest_says : (m : Meaning) (s : State) (w n : ℕ) → Soonest m s w n (soonest m s w n)
unfolding soonest
soonest_says m s w zero = λ k l. absurd (omega arith)
soonest_says m s w (suc n) = sooner_says m s w n (asks_for m s w n) refl (soonest m s w n) (soonest_says m s w n)

-- who asks first, in words
abbrev pub AsksSaid : (m : Meaning) (s : State) (w : ℕ) → Option ℕ → Type 0
AsksSaid m s w None = (k : ℕ) → Asks m s w k → ⊥
AsksSaid m s w (Some g) = AsksFirst m s w g

asks_from : (m : Meaning) (s : State) (w : ℕ) (o : Option ℕ) → Soonest m s w s.houses o → AsksSaid m s w o
asks_from m s w None h = λ k a. h k a.is_open.known ((decides_asks m s w k).1 a)
asks_from m s w (Some g) h = record {
  asks = (decides_asks m s w g).0 h.1;
  first = λ k a. h.2 k a.is_open.known ((decides_asks m s w k).1 a);
}

pub asks_said : (m : Meaning) (s : State) (w : ℕ) → AsksSaid m s w (soonest m s w s.houses)
asks_said m s w = asks_from m s w _ (soonest_says m s w s.houses)

-- where help dates differ, the answer is the only one

pub none_asks : (m : Meaning) (s : State) (w : ℕ) → ((k : ℕ) → Asks m s w k → ⊥) → soonest m s w s.houses ≡ None
none_asks m s w none = go (soonest m s w s.houses) (asks_said m s w)
  where
    go : (o : Option ℕ) → AsksSaid m s w o → o ≡ None
    go None h = refl
    go (Some g) h = absurd (none g h.asks)

pub first_asks : (m : Meaning) (s : State) (w g : ℕ) → ((j k : ℕ) → 0 < (s.house j).date → (s.house j).date ≡ (s.house k).date → j ≡ k)
    → AsksFirst m s w g → soonest m s w s.houses ≡ Some g
first_asks m s w g distinct a = go (soonest m s w s.houses) (asks_said m s w)
  where
    go : (o : Option ℕ) → AsksSaid m s w o → o ≡ Some g
    go None h = absurd (h g a.asks)
    go (Some k) h = ap Some (distinct k g h.asks.dated (omega (arith, h.first g a.asks, a.first k h.asks)))

-- the first of n numbers from i on that passes
abbrev First : (p : ℕ → Bool) (i n : ℕ) → Option ℕ → Type 0
First p i n None = (j : ℕ) → i ≤ j → j < i + n → p j ≡ true → ⊥
First p i n (Some g) = (i ≤ g) × (g < i + n) × (p g ≡ true) × ((j : ℕ) → i ≤ j → j < g → p j ≡ true → ⊥)

first_more : (p : ℕ → Bool) (i n : ℕ) → p i ≡ false → (o : Option ℕ) → First p (i + 1) n o → First p i (suc n) o
first_more p i n e None h = λ j l k f. go j l k f (cases_eq i j)
  where
    go : (j : ℕ) → i ≤ j → j < i + suc n → p j ≡ true → (i ≡ j) ⊎ (i ≡ j → ⊥) → ⊥
    go j l k f (inl q) = both_ways (p i) e (subst (λ (x : ℕ). p x ≡ true) (sym q) f)
    go j l k f (inr q) = h j (omega arith) (omega arith) f
first_more p i n e (Some g) h = (omega (arith, h.0), omega (arith, h.1), h.2, λ j l k f. go j l k f (cases_eq i j))
  where
    go : (j : ℕ) → i ≤ j → j < g → p j ≡ true → (i ≡ j) ⊎ (i ≡ j → ⊥) → ⊥
    go j l k f (inl q) = both_ways (p i) e (subst (λ (x : ℕ). p x ≡ true) (sym q) f)
    go j l k f (inr q) = h.3 j (omega arith) k f

first_says : (p : ℕ → Bool) (n i : ℕ) → First p i n (first_from p i n)
unfolding first_from
first_says p zero i = λ j l k f. absurd (omega arith)
first_says p (suc n) i = go (p i) refl (first_says p n (i + 1))
  where
    go : (b : Bool) → p i ≡ b → First p (i + 1) n (first_from p (i + 1) n) → First p i (suc n) (cond b (Some i) (first_from p (i + 1) n))
    go true e h = (omega arith, omega arith, e, λ j l k f. absurd (omega arith))
    go false e h = first_more p i n e (first_from p (i + 1) n) h

-- a step count, where the way round starts at or below the house, or above it

steps_up : (from n g : ℕ) → from ≤ g → steps_from from n g ≡ g - from
steps_up from n g l = ap (λ b. cond b (g - from) (g + n - from)) (le-leb from g l)

steps_round : (from n g : ℕ) → g < from → steps_from from n g ≡ g + n - from
steps_round from n g l = ap (λ b. cond b (g - from) (g + n - from)) (lt-leb from g l)

-- two houses are not as many steps away
steps_apart : (from n j k : ℕ) → from ≤ n → j < n → k < n → steps_from from n j ≡ steps_from from n k → j ≡ k
steps_apart from n j k l lj lk e = go (cases_lt j from) (cases_lt k from)
  where
    go : (j < from) ⊎ (from ≤ j) → (k < from) ⊎ (from ≤ k) → j ≡ k
    go (inl a) (inl b) = omega (arith, steps_round from n j a, steps_round from n k b)
    go (inl a) (inr b) = omega (arith, steps_round from n j a, steps_up from n k b)
    go (inr a) (inl b) = omega (arith, steps_up from n j a, steps_round from n k b)
    go (inr a) (inr b) = omega (arith, steps_up from n j a, steps_up from n k b)

abbrev pub KeepsSaid : (m : Meaning) (s : State) (w : ℕ) → Option ℕ → Type 0
KeepsSaid m s w None = (k : ℕ) → Keeps m s w k → ⊥
KeepsSaid m s w (Some g) = KeepsNext m s w g

keeps_from : (m : Meaning) (s : State) (w : ℕ) → (s.worker w).next ≤ s.houses → (a b : Option ℕ)
    → First (keeps_open m s w) (s.worker w).next (s.houses - (s.worker w).next) a → First (keeps_open m s w) 0 (s.worker w).next b
    → KeepsSaid m s w (or_else a b)
keeps_from m s w l (Some g) b x y = record {
  keeps = (decides_keeps m s w g).0 x.2;
  first = λ k c. go k c (cases_lt k (s.worker w).next);
}
  where
    from : ℕ
    from = (s.worker w).next

    go : (k : ℕ) → Keeps m s w k → (k < from) ⊎ (from ≤ k) → steps_from from s.houses g ≤ steps_from from s.houses k
    go k c (inl q) = omega (arith, steps_up from s.houses g x.0, steps_round from s.houses k q, x.1, c.is_open.known)
    go k c (inr q) = later (cases_lt k g)
      where
        later : (k < g) ⊎ (g ≤ k) → steps_from from s.houses g ≤ steps_from from s.houses k
        later (inl z) = absurd (x.3 k q z ((decides_keeps m s w k).1 c))
        later (inr z) = omega (arith, steps_up from s.houses g x.0, steps_up from s.houses k q)
keeps_from m s w l None (Some g) x y = record {
  keeps = (decides_keeps m s w g).0 y.2;
  first = λ k c. go k c (cases_lt k (s.worker w).next);
}
  where
    from : ℕ
    from = (s.worker w).next

    go : (k : ℕ) → Keeps m s w k → (k < from) ⊎ (from ≤ k) → steps_from from s.houses g ≤ steps_from from s.houses k
    go k c (inr q) = absurd (x k q (omega (arith, c.is_open.known)) ((decides_keeps m s w k).1 c))
    go k c (inl q) = later (cases_lt k g)
      where
        later : (k < g) ⊎ (g ≤ k) → steps_from from s.houses g ≤ steps_from from s.houses k
        later (inl z) = absurd (y.3 k (omega arith) z ((decides_keeps m s w k).1 c))
        later (inr z) = omega (arith, steps_round from s.houses g (omega (arith, y.1)), steps_round from s.houses k q)
keeps_from m s w l None None x y = λ k c. go k c (cases_lt k (s.worker w).next)
  where
    go : (k : ℕ) → Keeps m s w k → (k < (s.worker w).next) ⊎ ((s.worker w).next ≤ k) → ⊥
    go k c (inl q) = y k (omega arith) (omega arith) ((decides_keeps m s w k).1 c)
    go k c (inr q) = x k q (omega (arith, c.is_open.known)) ((decides_keeps m s w k).1 c)

pub keeps_said : (m : Meaning) (s : State) (w : ℕ) → (s.worker w).next ≤ s.houses → KeepsSaid m s w (next_kept m s w)
keeps_said m s w l =
    keeps_from m s w l _ _ (first_says (keeps_open m s w) (s.houses - (s.worker w).next) (s.worker w).next) (first_says (keeps_open m s w) (s.worker w).next 0)

pub none_kept : (m : Meaning) (s : State) (w : ℕ) → (s.worker w).next ≤ s.houses → ((k : ℕ) → Keeps m s w k → ⊥) → next_kept m s w ≡ None
none_kept m s w l none = go (next_kept m s w) (keeps_said m s w l)
  where
    go : (o : Option ℕ) → KeepsSaid m s w o → o ≡ None
    go None h = refl
    go (Some g) h = absurd (none g h.keeps)

pub first_kept : (m : Meaning) (s : State) (w g : ℕ) → (s.worker w).next ≤ s.houses → KeepsNext m s w g → next_kept m s w ≡ Some g
first_kept m s w g l a = go (next_kept m s w) (keeps_said m s w l)
  where
    go : (o : Option ℕ) → KeepsSaid m s w o → o ≡ Some g
    go None h = absurd (h g a.keeps)
    go (Some k) h = ap Some (steps_apart (s.worker w).next s.houses k g l h.keeps.is_open.known a.keeps.is_open.known
        (omega (arith, h.first g a.keeps, a.first k h.keeps)))
