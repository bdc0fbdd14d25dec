use Rattle.std.proofs.Common.{◌≡◌, List, [], length}
use Rattle.batch.specs.declared.items.Item.{Item}
use Rattle.batch.specs.Parts.{lines}
use Rattle.batch.specs.Plans.{terms, planned}
use Rattle.batch.specs.Progress.{sofar}
use Rattle.batch.specs.Reading.{said}
use Rattle.batch.specs.Tables.{Grown, postings_in, orders_in, runs_in}
use Rattle.batch.proofs.filling.fill.Given as goal

abbrev pub invariant-loop-judged : goal.invariant-loop-judged
invariant-loop-judged l =
    (past : List Item) × (l.reader.sizes ≡ l.sizes) × (l.reader.known ≡ sofar past) × (said l.sizes past (lines l.reader.rest.now) ≡ said l.sizes [] (lines l.text))
    × Grown (postings_in past) l.initial.postings l.postings × Grown (orders_in past) l.initial.lines l.lines × Grown (runs_in past) l.initial.runs l.runs
    × (terms l.plan ≡ planned past)

abbrev pub decreases-loop-judged : goal.decreases-loop-judged
decreases-loop-judged l = length l.reader.rest.now
