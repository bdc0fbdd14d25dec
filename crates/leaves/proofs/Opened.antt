-- A closed book opened on bytes.
use Rattle.std.proofs.Common.{◌≡◌, ℕ, ◌/◌, List, [], length, cond, is_ok, Ok, Err, Result, sym, ap, ◌∙◌, subst, inl, inr, arith}
use Rattle.leaves.specs.Leaf.{IsLeaf}
use Rattle.leaves.specs.Pages.{leaf_at, whole_leaves, entries_on, page_entries, LeavesOfEntries, GoodBook, BookChecked, Kept, BookOpened}
use Rattle.leaves.specs.declared.book_check.BookRefusal.{BookRefusal}
use Rattle.leaves.specs.declared.book_check.BookRefusal.TheVariants.{NotWholeLeaves, BrokenLeaf}
use Rattle.leaves.proofs.LeafTest.{own_leaf}

-- bytes that the check refuses are no closed book
pub not_good : (bs : List ℕ) (r : BookRefusal) → BookChecked bs (Err r) → GoodBook bs → ⊥
not_good bs NotWholeLeaves h good = h good.whole
not_good bs (BrokenLeaf k) h good = h.2 (good.leaves k h.1)

-- what is kept, by what the check answers
pub kept_by : (bs kept : List ℕ) (r : Result (Unit {0}) BookRefusal) → BookChecked bs r → kept ≡ cond (is_ok r) bs [] → Kept bs kept
kept_by bs kept (Ok done) h e = inl (h, e)
kept_by bs kept (Err f) h e = inr (not_good bs f h, e)

-- each leaf that is kept says an entry, and is the leaf of that entry
pub kept_leaves : (bs kept : List ℕ) → Kept bs kept → LeavesOfEntries (whole_leaves kept) kept
kept_leaves bs kept (inl (good, same)) k l =
    own_leaf (leaf_at kept k) (subst (λ (xs : List ℕ). IsLeaf (leaf_at xs k)) (sym same) (good.leaves k (omega (arith, ap length same))))
kept_leaves bs kept (inr (bad, none)) k l = absurd (omega (arith, ap length none))

-- a good book has all of its entries, and any other none
pub kept_opened : (bs kept : List ℕ) → Kept bs kept → BookOpened bs (page_entries 4096 kept)
kept_opened bs kept (inl (good, same)) =
    let all : whole_leaves kept ≡ length bs / 160 = omega (arith, ap length same, good.whole.1) in
    (λ h. ap (λ (n : ℕ). entries_on n kept) (omega arith ∙ all) ∙ ap (entries_on (length bs / 160)) same, λ bad. absurd (bad good))
kept_opened bs kept (inr (bad, none)) = (λ good. absurd (bad good), λ h. ap (λ (xs : List ℕ). page_entries 4096 xs) none)
