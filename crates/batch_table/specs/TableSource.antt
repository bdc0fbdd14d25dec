-- The records of postings and order lines as a source of postings.
use Rattle.std.specs.Prelude.{ℕ, ◌-◌, cond, count_by, List, [], ◌∷◌, length, ◌==◌, nat_lt, slice_index_or}
use Rattle.std.specs.List.{slice_get}
use Rattle.posting.specs.Sources.{Meaning, void_outside}
use Rattle.batch.specs.declared.records.Posting.{Posting}
use Rattle.batch.specs.declared.records.OrderLine.{OrderLine}
use Rattle.batch.specs.Texts.{first_of, between}
use Rattle.batch_table.specs.InOrder.{from_a_batch}
use Rattle.batch_table.specs.OrderLines.{order_at, hand_at}

-- the postings of a house, each by its order lines, in the order of the records: a posting's order lines go up to those of
-- the next record, or to the end
unfoldable pub postings_of : ℕ → List Posting → List OrderLine → List (List OrderLine)
postings_of house [] os = []
postings_of house (p ∷ ps) os =
    cond (p.house == house) (between p.first (first_of ps (length os)) os ∷ postings_of house ps os) (postings_of house ps os)

-- the order lines of a posting; postings count from 1
abbrev pub lines_of : ℕ → ℕ → List Posting → List OrderLine → List OrderLine
lines_of house number ps os = slice_index_or (postings_of house ps os) (number - 1) []

-- how many records have a lower house
abbrev pub before : ℕ → List Posting → ℕ
before house ps = count_by (λ p. nat_lt p.house house) ps

-- what the records mean
abbrev pub table_source : ℕ → List Posting → List OrderLine → Meaning
table_source houses ps os = void_outside record {
  houses = houses;
  postings = λ house. length (postings_of house ps os);
  longest = 16;
  order = λ house number line hand. order_at (slice_get (lines_of house number ps os) line) hand;
  found = λ house number line hand value. hand_at (slice_get (lines_of house number ps os) line) hand value;
}

-- records that no batch gives make a source without houses
abbrev pub batch_source : ℕ → List Posting → List OrderLine → Meaning
batch_source houses ps os = cond (from_a_batch houses ps os) (table_source houses ps os) (table_source 0 [] [])
