use Rattle.std.proofs.Common.{◌≡◌, ◌++◌}
use Rattle.std.specs.List.{slice_get}
use Rattle.leaves.specs.Stores.{book_entries}
use Rattle.book.specs.Printed.{in_turn, line_of}
use Rattle.book.proofs.text.Text.push_entry_lines.Given as goal

-- the lines so far
abbrev pub invariant-loop-k : goal.invariant-loop-k
invariant-loop-k l = l.self ≡ l.initial.self ++ in_turn (λ k. line_of k (slice_get (book_entries l.book) k)) l.k
