-- Leaves one after the other: which entries stand on them, and when bytes are a closed book.
use Rattle.std.specs.Prelude.{◌≡◌, ℕ, zero, suc, ◌+◌, ◌*◌, ◌/◌, ◌%◌, ◌<◌, ◌≤◌, min, ◌⊎◌, List, [], ◌∷◌, ◌++◌, length, take, drop, Ok, Err, Result}
use Rattle.journal.specs.Entries.{Posted}
use Rattle.leaves.specs.Leaf.{entry_on, IsLeaf, IsLeafOfItsEntry}
use Rattle.leaves.specs.declared.book_check.BookRefusal.{BookRefusal}
use Rattle.leaves.specs.declared.book_check.BookRefusal.TheVariants.{NotWholeLeaves, BrokenLeaf}

-- leaf k, counted from 0
abbrev pub leaf_at : List ℕ → ℕ → List ℕ
leaf_at bs k = take 160 (drop (160 * k) bs)

-- the bytes with another leaf k: all others stay
abbrev pub leaf_put : List ℕ → ℕ → List ℕ → List ℕ
leaf_put bs k leaf = take (160 * k) bs ++ (leaf ++ drop (160 * k + 160) bs)

-- the entries on the first n leaves
abbrev pub entries_on : ℕ → List ℕ → List Posted
entries_on zero bs = []
entries_on (suc n) bs = entry_on (take 160 bs) ∷ entries_on n (drop 160 bs)

-- how many whole leaves a journal can use; what lies past them is left alone
abbrev pub whole_leaves : List ℕ → ℕ
whole_leaves bs = min (length bs / 160) 4096

-- the leaves in use, of which there are at most the whole ones
abbrev pub leaves_used : ℕ → List ℕ → ℕ
leaves_used used bs = min used (whole_leaves bs)

-- the entries on the leaves in use
abbrev pub page_entries : ℕ → List ℕ → List Posted
page_entries used bs = entries_on (leaves_used used bs) bs

-- the first n leaves are leaves of their entries
abbrev pub LeavesOfEntries : ℕ → List ℕ → Type 0
LeavesOfEntries n bs = (k : ℕ) → k < n → IsLeafOfItsEntry (leaf_at bs k)

-- whole leaves, at most 4,096 of them
abbrev pub WholeBook : List ℕ → Type 0
WholeBook bs = (length bs % 160 ≡ 0) × (length bs ≤ 655360)

-- a closed book: whole leaves, each the leaf of some entry
pub record GoodBook (bs : List ℕ) : Type 0 where
  pub whole : WholeBook bs
  pub leaves : (k : ℕ) → k < length bs / 160 → IsLeaf (leaf_at bs k)

abbrev pub book_number : BookRefusal → ℕ
book_number NotWholeLeaves = 51
book_number (BrokenLeaf k) = 52

-- which leaf is broken; 0 where no leaf is told
abbrev pub book_leaf : BookRefusal → ℕ
book_leaf NotWholeLeaves = 0
book_leaf (BrokenLeaf k) = k

-- what the check answers: 51 before 52, and the first broken leaf
abbrev pub BookChecked : List ℕ → Result (Unit {0}) BookRefusal → Type 0
BookChecked bs (Ok done) = GoodBook bs
BookChecked bs (Err NotWholeLeaves) = WholeBook bs → ⊥
BookChecked bs (Err (BrokenLeaf k)) =
    WholeBook bs × (k < length bs / 160) × (IsLeaf (leaf_at bs k) → ⊥) × ((j : ℕ) → j < k → IsLeaf (leaf_at bs j))

-- what is kept of bytes that are to be a closed book: all, or nothing where the check refuses them
abbrev pub Kept : List ℕ → List ℕ → Type 0
Kept bs kept = (GoodBook bs × (kept ≡ bs)) ⊎ ((GoodBook bs → ⊥) × (kept ≡ []))

-- what a closed book opened on bytes holds: all of their entries, or none where the check refuses them
abbrev pub BookOpened : List ℕ → List Posted → Type 0
BookOpened bs es = (GoodBook bs → es ≡ entries_on (length bs / 160) bs) × ((GoodBook bs → ⊥) → es ≡ [])
