use Rattle.std.specs.List.{slice_get}
use Rattle.leaves.specs.Stores.{book_entries}
use Rattle.book.specs.Printed.{line_of}
use Rattle.book.proofs.BookLines.{in_turn_none, in_turn_more}
use Rattle.book.proofs.text.Text.push_entry_lines.Goals as goal

pub loop-k-init : goal.loop-k-init
loop-k-init c = in_turn_none (λ k. line_of k (slice_get (book_entries c.args.book.now) k)) c.args.self.now

pub loop-k-preserved : goal.loop-k-preserved
loop-k-preserved c =
    let es = book_entries c.args.book.now in
    in_turn_more (λ k. line_of k (slice_get es k)) c.args.self.now _ _ c.loop-k.k c.loop-k.invariant c.in_ok-push_entry_line.ensures
