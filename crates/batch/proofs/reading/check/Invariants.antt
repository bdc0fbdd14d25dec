use Rattle.std.proofs.Common.{◌≡◌, ◌+◌, ◌≤◌, List, [], length}
use Rattle.batch.specs.declared.items.Item.{Item}
use Rattle.batch.specs.Parts.{lines}
use Rattle.batch.specs.Progress.{sofar}
use Rattle.batch.specs.Reading.{said}
use Rattle.batch.proofs.reading.check.Given as goal

abbrev pub invariant-loop-line : goal.invariant-loop-line
invariant-loop-line l =
    (past : List Item) × (l.reader.sizes ≡ l.fn.sizes) × (l.reader.known ≡ sofar past) × (l.line ≡ length past)
    × (said l.fn.sizes past (lines l.reader.rest.now) ≡ said l.fn.sizes [] (lines l.text)) × (l.line + length l.reader.rest.now ≤ length l.text)

abbrev pub decreases-loop-line : goal.decreases-loop-line
decreases-loop-line l = length l.reader.rest.now
