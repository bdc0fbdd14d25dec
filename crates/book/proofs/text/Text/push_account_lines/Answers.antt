use Rattle.std.proofs.Common.{◌++◌, length, Option, ap, ◌∙◌}
use Rattle.journal.specs.Balances.{last_given}
use Rattle.leaves.specs.Stores.{book_entries}
use Rattle.journal.specs.declared.balances.Given.{Given}
use Rattle.book.specs.Printed.{account_line}
use Rattle.book.proofs.BookLines.{in_turn_none, in_turn_more}
use Rattle.book.proofs.text.Text.push_account_lines.Goals as goal

pub loop-account-init : goal.loop-account-init
loop-account-init c =
    let es = book_entries c.args.book.now in
    in_turn_none (λ a. account_line a (last_given es a (length es))) c.args.self.now

pub loop-account-preserved : goal.loop-account-preserved
loop-account-preserved c =
    let es = book_entries c.args.book.now in
    let a = c.loop-account.account in
    let given = c.last_given.ensures.value ∙ ap (last_given es a) c.length-length.ensures in
    in_turn_more (λ a. account_line a (last_given es a (length es))) c.args.self.now _ _ a c.loop-account.invariant
    (c.in_ok-push_account_line.ensures ∙ ap (λ (o : Option Given). c.loop-account.self ++ account_line a o) given)
