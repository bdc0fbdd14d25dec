use Rattle.std.proofs.Common.{◌≡◌, Ok, rules}
use Rattle.batch.specs.Plans.{terms, plan_after}
use Rattle.batch.specs.Reading.{batch, answered}
use Rattle.batch.specs.Tables.{Tabled, postings_in, orders_in, runs_in, sizes_of}
use Rattle.batch.proofs.Told.{filled_text}
use Rattle.batch.proofs.filling.read_batch.Goals as goal

pub returns-clause-written : goal.returns-clause-written
returns-clause-written c =
    let t = sizes_of c.args.postings.now c.args.lines.now c.args.runs.now in
    let text = c.args.text.now in
    let accepted : answered (batch t text) ≡ Ok tt = search rules in
    let plan : terms c.fill.new.plan ≡ plan_after (terms c.args.plan.now) (batch t text) = search rules in
    let postings : Tabled postings_in (batch t text) c.args.postings.now c.fill.new.postings = search rules in
    let lines : Tabled orders_in (batch t text) c.args.lines.now c.fill.new.lines = search rules in
    let runs : Tabled runs_in (batch t text) c.args.runs.now c.fill.new.runs = search rules in
    λ e. filled_text t text (terms c.args.plan.now) _ c.args.postings.now _ c.args.lines.now _ c.args.runs.now _ accepted plan postings lines runs
