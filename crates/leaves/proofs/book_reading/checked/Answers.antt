use Rattle.std.proofs.Common.{◌≡◌, [], cond, is_ok, rules}
use Rattle.leaves.proofs.Opened.{kept_by}
use Rattle.leaves.proofs.book_reading.checked.Goals as goal

pub returns : goal.returns
returns c =
    let told : c.map_or.result.now ≡ cond (is_ok c.check_book.result) c.args.bytes.now [] = search rules in
    kept_by c.args.bytes.now _ c.check_book.result c.check_book.ensures told
