use Rattle.std.proofs.Common.{◌≡◌, ◌++◌, List, ℕ, refl, OnOk, replicate, subst, ap, ◌∙◌, take}
use Rattle.std.specs.List.{slice_get}
use Rattle.leaves.specs.Stores.{book_entries}
use Rattle.leaves.proofs.BookEntries.{book_lawful}
use Rattle.book.proofs.BookLines.{line_written}
use Rattle.book.proofs.text.Text.push_entry_line.Goals as goal

pub returns : goal.returns
returns c =
    let o = slice_get (book_entries c.args.book.now) c.args.k in
    let wrote = ap (λ (n : ℕ). take n c.entry_line.new.out) c.unwrap_or-length.ensures
    ∙ line_written o c.args.k (replicate 372 0) c.entry_line.new.out c.entry_line.result refl (book_lawful c.args.book.now c.args.k) c.entry_line.ensures.answer c.entry_line.ensures.bytes in
    subst (λ (line : List ℕ). OnOk c.push.result (c.push.new.self ≡ c.args.self.now ++ line)) wrote c.push.ensures
