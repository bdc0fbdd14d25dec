use Rattle.std.proofs.Common.{◌≡◌, ◌+◌, ◌≤◌, length, get_or, sym, ap, arith}
use Rattle.batch_table.specs.TableSource.{postings_of}
use Rattle.batch_table.proofs.TableLimits.{none_of, few_of}
use Rattle.batch_table.proofs.TableLines.{count_between}
use Rattle.batch_table.proofs.table.BatchTable.count.Goals as goal

pub returns-then-house-self : goal.returns-then-house-self
returns-then-house-self c =
    let s = c.args.self.now in
    record { value = sym (ap length (none_of s.houses c.args.house s.postings.now s.lines.now s.good c.if-house-self.true)); few = omega arith }

between : (c : goal.After-result-2-1) → get_or c.args.self.now.starts (c.args.house + 1) 0
    ≡ get_or c.args.self.now.starts c.args.house 0 + length (postings_of c.args.house c.args.self.now.postings.now c.args.self.now.lines.now)
between c =
    let s = c.args.self.now in
    let lower : c.args.house ≤ 15 = omega (arith, c.if-house-self.false, s.few) in
    count_between c.args.house s.postings.now s.lines.now _ _ (s.begun c.args.house (omega arith)) (s.begun (c.args.house + 1) (omega arith))

pub overflow_sub-result : goal.overflow_sub-result
overflow_sub-result c = omega (arith, between c)

pub returns : goal.returns
returns c =
    let s = c.args.self.now in
    record { value = omega (arith, between c); few = omega (arith, between c, few_of s.houses c.args.house s.postings.now s.lines.now s.good) }
