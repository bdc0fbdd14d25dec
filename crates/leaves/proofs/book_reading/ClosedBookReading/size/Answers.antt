use Rattle.std.proofs.Common.{arith}
use Rattle.leaves.specs.Pages.{leaves_used}
use Rattle.leaves.proofs.PageEntries.{length_entries}
use Rattle.leaves.proofs.book_reading.ClosedBookReading.size.Goals as goal

pub returns-clause-small : goal.returns-clause-small
returns-clause-small c =
    let bs = c.args.self.now.bytes.now in
    omega (arith, c.length.ensures, length_entries (leaves_used 4096 bs) bs)
