-- A customer's source: one house, whose postings copy the balance of account 1 to account 2.
use Rattle.std.specs.Prelude.{ℕ, min, cond, Some, None, ◌==◌}
use Rattle.posting.specs.Sources.{Meaning, void_outside}
use Rattle.posting.specs.declared.order.Order.TheVariants.{Read, Write}

abbrev pub copying : ℕ → Meaning
copying times = void_outside record {
  houses = 1;
  postings = λ house. cond (house == 0) (min times 4096) 0;
  longest = 2;
  order = λ house number line hand. cond (line == 0) (Read 1) (Write 2 hand);
  found = λ house number line hand value. cond (line == 0) (Some value) None;
}
