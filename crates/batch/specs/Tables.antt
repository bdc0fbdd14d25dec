-- The tables that accepted lines make. Lines are listed latest first.
use Rattle.std.specs.Prelude.{◌≡◌, ℕ, ◌+◌, ◌-◌, List, [], ◌∷◌, ◌++◌, length, drop, Ok, Err, Result}
use Rattle.roll.specs.declared.Roll.{Roll}
use Rattle.roll.specs.Rolls.{items, unused, cells_of, capacity_of}
use Rattle.batch.specs.declared.records.Posting.{Posting}
use Rattle.batch.specs.declared.records.OrderLine.{OrderLine}
use Rattle.batch.specs.declared.records.Run.{Run}
use Rattle.batch.specs.declared.items.BatchRefusal.{BatchRefusal}
use Rattle.batch.specs.declared.progress.Sizes.{Sizes}
use Rattle.batch.specs.declared.items.Item.{Item}
use Rattle.batch.specs.declared.items.Item.TheVariants.{Begins, Opened, Kept, Posts, Orders, Runs}

-- how many houses have come
abbrev pub seen_in : List Item → ℕ
seen_in [] = 0
seen_in (Begins h ∷ past) = seen_in past
seen_in (Opened o ∷ past) = seen_in past
seen_in (Kept k ∷ past) = seen_in past + 1
seen_in (Posts ∷ past) = seen_in past
seen_in (Orders o ∷ past) = seen_in past
seen_in (Runs r ∷ past) = seen_in past

-- the order lines, in their order

abbrev pub order_of : Item → List OrderLine
order_of (Begins h) = []
order_of (Opened o) = []
order_of (Kept k) = []
order_of Posts = []
order_of (Orders o) = o ∷ []
order_of (Runs r) = []

abbrev pub orders_in : List Item → List OrderLine
orders_in [] = []
orders_in (i ∷ past) = orders_in past ++ order_of i

-- a posting belongs to the last house, and its order lines are those to come

abbrev pub posting_of : ℕ → ℕ → Item → List Posting
posting_of seen first (Begins h) = []
posting_of seen first (Opened o) = []
posting_of seen first (Kept k) = []
posting_of seen first Posts = record { house = seen - 1; first = first } ∷ []
posting_of seen first (Orders o) = []
posting_of seen first (Runs r) = []

abbrev pub postings_in : List Item → List Posting
postings_in [] = []
postings_in (i ∷ past) = postings_in past ++ posting_of (seen_in past) (length (orders_in past)) i

-- the runs

abbrev pub run_of : Item → List Run
run_of (Begins h) = []
run_of (Opened o) = []
run_of (Kept k) = []
run_of Posts = []
run_of (Orders o) = []
run_of (Runs r) = r ∷ []

abbrev pub runs_in : List Item → List Run
runs_in [] = []
runs_in (i ∷ past) = runs_in past ++ run_of i

-- a roll with these records more, over the same cells
pub record Grown {X : Type 0} (xs : List X) (before after : Roll X) : Type 0 where
  pub list : items after ≡ items before ++ xs
  pub free : unused after ≡ drop (length xs) (unused before)
  pub size : capacity_of after ≡ capacity_of before
  pub lender : after.cells.ghost_name ≡ before.cells.ghost_name

-- a new roll with these records, over the same cells: those past the used ones stay
pub record Anew {X : Type 0} (xs : List X) (before after : Roll X) : Type 0 where
  pub list : items after ≡ xs
  pub free : unused after ≡ drop (length xs) (cells_of before)
  pub size : capacity_of after ≡ capacity_of before
  pub lender : after.cells.ghost_name ≡ before.cells.ghost_name

-- an accepted batch sets a table anew, a refused one leaves it as it was
abbrev pub Tabled : {X : Type 0} → (List Item → List X) → Result (List Item) BatchRefusal → Roll X → Roll X → Type 0
Tabled table (Ok past) before after = Anew (table past) before after
Tabled table (Err e) before after = after ≡ before

-- how many records the rolls can hold
abbrev pub sizes_of : Roll Posting → Roll OrderLine → Roll Run → Sizes
sizes_of ps os rs = record { postings = capacity_of ps; orders = capacity_of os; runs = capacity_of rs }
