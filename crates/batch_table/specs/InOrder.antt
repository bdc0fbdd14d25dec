-- Which records of postings and order lines a batch can give.
use Rattle.std.specs.Prelude.{ℕ, ◌+◌, ◌-◌, Bool, true, cond, ◌&&◌, List, [], ◌∷◌, length, ◌==◌, nat_le, nat_lt}
use Rattle.batch.specs.declared.records.Posting.{Posting}
use Rattle.batch.specs.declared.records.OrderLine.{OrderLine}
use Rattle.batch_table.specs.declared.in_order.Reached.{Reached}
use Rattle.batch_table.specs.OrderLines.{lines_in_range}

-- before the first record, which begins with the first order line
abbrev pub unbegun : Reached
unbegun = record { house = 0; here = 0; first = 0; most = 0 }

-- the order lines of the last record may end here
abbrev pub ends_at : Reached → ℕ → Bool
ends_at s end = nat_le s.first end && nat_le (end - s.first) s.most

-- how many records of its house there are with this one
abbrev pub here_with : Reached → Posting → ℕ
here_with s p = cond (p.house == s.house) (s.here + 1) 1

-- a record may come next: the order lines before it are not too many, houses never fall and are below their count, and no
-- house has more than 4,096 records
abbrev pub allows : ℕ → Reached → Posting → Bool
allows houses s p = ends_at s p.first && (nat_le s.house p.house && (nat_lt p.house houses && nat_le (here_with s p) 4096))

-- after that record, which has at most 16 order lines
abbrev pub reached_with : Reached → Posting → Reached
reached_with s p = record { house = p.house; here = here_with s p; first = p.first; most = 16 }

unfoldable pub all_allowed : ℕ → Reached → List Posting → Bool
all_allowed houses s [] = true
all_allowed houses s (p ∷ ps) = allows houses s p && all_allowed houses (reached_with s p) ps

unfoldable pub last_reached : Reached → List Posting → Reached
last_reached s [] = s
last_reached s (p ∷ ps) = last_reached (reached_with s p) ps

-- each record may come after those before it, and the order lines of the last end with the table
abbrev pub records_in_order : ℕ → List Posting → ℕ → Bool
records_in_order houses ps end = all_allowed houses unbegun ps && ends_at (last_reached unbegun ps) end

abbrev pub in_order : ℕ → List Posting → List OrderLine → Bool
in_order houses ps os = records_in_order houses ps (length os) && lines_in_range os

-- the test of records: 1 to 16 houses, and records in order
abbrev pub from_a_batch : ℕ → List Posting → List OrderLine → Bool
from_a_batch houses ps os = nat_le 1 houses && (nat_le houses 16 && in_order houses ps os)
