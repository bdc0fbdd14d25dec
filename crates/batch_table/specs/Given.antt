-- Records that some batch gives.
use Rattle.std.specs.Prelude.{◌≡◌, ℕ, true, List, Ok}
use Rattle.batch.specs.declared.records.Posting.{Posting}
use Rattle.batch.specs.declared.records.OrderLine.{OrderLine}
use Rattle.batch.specs.declared.items.Item.{Item}
use Rattle.batch.specs.declared.progress.Sizes.{Sizes}
use Rattle.batch.specs.Plans.{planned}
use Rattle.batch.specs.Reading.{batch_of_any_length, batch}
use Rattle.batch.specs.Tables.{postings_in, orders_in}
use Rattle.batch_table.specs.InOrder.{from_a_batch}

-- some text, however long, is accepted into tables of some sizes, and gives this number of houses and these records
pub record Given (houses : ℕ) (ps : List Posting) (os : List OrderLine) : Type 0 where
  pub sizes : Sizes
  pub text : List ℕ
  pub past : List Item
  pub accepted : batch_of_any_length sizes text ≡ Ok past
  pub plan : (planned past).houses ≡ houses
  pub postings : postings_in past ≡ ps
  pub lines : orders_in past ≡ os

-- what an accepted batch fills passes the test of records
abbrev pub FilledTablesPass : Type 0
FilledTablesPass =
    (t : Sizes) (text : List ℕ) (past : List Item) → batch t text ≡ Ok past → from_a_batch (planned past).houses (postings_in past) (orders_in past) ≡ true
