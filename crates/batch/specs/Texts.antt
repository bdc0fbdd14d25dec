-- The text of a plan and its tables: what a batch that fills them looks like.
use Rattle.std.specs.Prelude.{◌≡◌, ℕ, zero, suc, ◌+◌, cond, List, [], ◌∷◌, ◌++◌, length, ℤ, pos, negsuc, Ok, decimal, ◌==◌, slice_index, slice_range}
use Rattle.std.specs.Fmt.{signed_decimal}
use Rattle.batch.specs.declared.records.Posting.{Posting}
use Rattle.batch.specs.declared.records.OrderLine.{OrderLine}
use Rattle.batch.specs.declared.records.OrderLine.TheVariants.{Take, Join, Set, Raise, Need, Write}
use Rattle.batch.specs.declared.records.Run.{Run}
use Rattle.batch.specs.declared.items.Item.{Item}
use Rattle.batch.specs.declared.progress.Sizes.{Sizes}
use Rattle.batch.specs.Plans.{Terms, planned}
use Rattle.batch.specs.Progress.{houses_in}
use Rattle.batch.specs.Reading.{batch_of_any_length, batch, Lawful}
use Rattle.batch.specs.Tables.{seen_in, postings_in, orders_in, runs_in}

-- fields parted by commas
abbrev pub commas : List (List ℕ) → List ℕ
commas [] = []
commas (p ∷ []) = p
commas (p ∷ q ∷ ps) = p ++ (44 ∷ commas (q ∷ ps))

-- a line of a mark and fields
abbrev pub line_of : ℕ → List (List ℕ) → List ℕ
line_of mark fs = commas ((mark ∷ []) ∷ fs) ++ (10 ∷ [])

-- B,houses,workers,patience
abbrev pub head_line : ℕ → ℕ → ℕ → List ℕ
head_line h w p = line_of 66 (decimal h ∷ decimal w ∷ decimal p ∷ [])

-- O,account,cents
abbrev pub opening_line : ℕ → ℤ → List ℕ
opening_line k v = line_of 79 (decimal k ∷ signed_decimal v ∷ [])

-- H,house,keeper
abbrev pub house_line : ℕ → ℕ → List ℕ
house_line h k = line_of 72 (decimal h ∷ decimal k ∷ [])

-- P
abbrev pub posting_line : List ℕ
posting_line = line_of 80 []

-- T,account U,account S,cents A,cents N,cents W,account
abbrev pub order_text : OrderLine → List ℕ
order_text (Take a) = line_of 84 (decimal a ∷ [])
order_text (Join a) = line_of 85 (decimal a ∷ [])
order_text (Set v) = line_of 83 (signed_decimal v ∷ [])
order_text (Raise v) = line_of 65 (signed_decimal v ∷ [])
order_text (Need v) = line_of 78 (signed_decimal v ∷ [])
order_text (Write a) = line_of 87 (decimal a ∷ [])

-- G,worker,count
abbrev pub run_line : Run → List ℕ
run_line r = line_of 71 (decimal r.worker ∷ decimal r.count ∷ [])

-- the opening values other than 0, from account k on

abbrev pub opening_text : ℕ → ℤ → List ℕ
opening_text k (pos zero) = []
opening_text k (pos (suc n)) = opening_line k (pos (suc n))
opening_text k (negsuc n) = opening_line k (negsuc n)

unfoldable pub opening_texts : ℕ → List ℤ → List ℕ
opening_texts k [] = []
opening_texts k (v ∷ vs) = opening_text k v ++ opening_texts (k + 1) vs

unfoldable pub order_texts : List OrderLine → List ℕ
order_texts [] = []
order_texts (o ∷ os) = order_text o ++ order_texts os

-- the place of the first order line of these postings, or the end of the order lines
abbrev pub first_of : List Posting → ℕ → ℕ
first_of [] end = end
first_of (p ∷ ps) end = p.first

-- what stands from one place to another
abbrev pub between : {X : Type 0} → ℕ → ℕ → List X → List X
between a b xs = slice_range xs a b

-- the postings of a house, each with its order lines
unfoldable pub posting_texts : ℕ → List Posting → List OrderLine → List ℕ
posting_texts house [] os = []
posting_texts house (p ∷ ps) os =
    cond (p.house == house) (posting_line ++ order_texts (between p.first (first_of ps (length os)) os)) [] ++ posting_texts house ps os

-- the first houses, this many, each with its postings
unfoldable pub house_texts : ℕ → List ℕ → List Posting → List OrderLine → List ℕ
house_texts zero keepers ps os = []
house_texts (suc h) keepers ps os = house_texts h keepers ps os ++ (house_line h (slice_index keepers h) ++ posting_texts h ps os)

unfoldable pub run_texts : List Run → List ℕ
run_texts [] = []
run_texts (r ∷ rs) = run_line r ++ run_texts rs

-- the text up to this many houses
abbrev pub text_upto : ℕ → Terms → List Posting → List OrderLine → List Run → List ℕ
text_upto houses p ps os rs =
    head_line p.houses p.workers p.patience ++ (opening_texts 0 p.openings ++ (house_texts houses p.keepers ps os ++ run_texts rs))

abbrev pub batch_text : Terms → List Posting → List OrderLine → List Run → List ℕ
batch_text p ps os rs = text_upto p.houses p ps os rs

-- the text of accepted lines, the latest first
abbrev pub text_of : List Item → List ℕ
text_of past = batch_text (planned past) (postings_in past) (orders_in past) (runs_in past)

-- an accepted text is what its plan and its tables write
abbrev pub WritesBack : Type 0
WritesBack = (t : Sizes) (text : List ℕ) (past : List Item) → batch t text ≡ Ok past → text ≡ text_of past

-- lines that may come one after the other, to the last house, are read back from their text, however long it is
abbrev pub ReadsBack : Type 0
ReadsBack = (t : Sizes) (past : List Item) → Lawful t past → seen_in past ≡ houses_in past → batch_of_any_length t (text_of past) ≡ Ok past

-- however large the tables are, a text fills them and the plan in one way only
abbrev pub OneWay : Type 0
OneWay = (t u : Sizes) (text : List ℕ) (p q : List Item) → batch t text ≡ Ok p → batch u text ≡ Ok q → p ≡ q
