-- Records that are in order, in words.
use Rattle.std.specs.Prelude.{◌≡◌, ℕ, ◌+◌, ◌<◌, ◌≤◌, List, length, get_or, drop, slice_index_or}
use Rattle.batch.specs.declared.records.Posting.{Posting}
use Rattle.batch.specs.declared.records.OrderLine.{OrderLine}
use Rattle.batch.specs.declared.records.OrderLine.TheVariants.{Take}
use Rattle.batch.specs.Limits.{Ordered}
use Rattle.batch.specs.Texts.{first_of, between}
use Rattle.batch_table.specs.TableSource.{postings_of, lines_of}

abbrev pub posting_at : List Posting → ℕ → Posting
posting_at ps k = get_or ps k record { house = 0; first = 0 }

-- where the order lines of record k end
abbrev pub end_at : List Posting → List OrderLine → ℕ → ℕ
end_at ps os k = first_of (drop (k + 1) ps) (length os)

-- the record of a posting stands here, and its order lines are those up to where they end
pub record StandsAt (house number k : ℕ) (ps : List Posting) (os : List OrderLine) : Type 0 where
  pub within : k < length ps
  pub from : (posting_at ps k).first ≤ end_at ps os k
  pub to : end_at ps os k ≤ length os
  pub lines : lines_of house number ps os ≡ between (posting_at ps k).first (end_at ps os k) os

-- there are 1 to 16 houses; those of the records are below that number and never fall, and no house has more than 4,096 records;
-- the order lines begin with the first record's, and each record has at most 16; every order line is in range
pub record Orderly (houses : ℕ) (ps : List Posting) (os : List OrderLine) : Type 0 where
  pub some : 1 ≤ houses
  pub few : houses ≤ 16
  pub below : (k : ℕ) → k < length ps → (posting_at ps k).house < houses
  pub rising : (j k : ℕ) → j ≤ k → k < length ps → (posting_at ps j).house ≤ (posting_at ps k).house
  pub counts : (house : ℕ) → length (postings_of house ps os) ≤ 4096
  pub first : first_of ps (length os) ≡ 0
  pub lines : (k : ℕ) → k < length ps → ((posting_at ps k).first ≤ end_at ps os k) × (end_at ps os k ≤ (posting_at ps k).first + 16)
  pub ranged : (k : ℕ) → k < length os → Ordered (slice_index_or os k (Take 0))
