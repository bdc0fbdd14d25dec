use Rattle.std.proofs.Common.{◌≡◌, ◌++◌, length}
use Rattle.journal.specs.Balances.{last_given}
use Rattle.leaves.specs.Stores.{book_entries}
use Rattle.book.specs.Printed.{in_turn, account_line}
use Rattle.book.proofs.text.Text.push_account_lines.Given as goal

-- the lines so far
abbrev pub invariant-loop-account : goal.invariant-loop-account
invariant-loop-account l =
    l.self ≡ l.initial.self ++ in_turn (λ a. account_line a (last_given (book_entries l.book) a (length (book_entries l.book)))) l.account
