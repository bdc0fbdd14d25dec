use Rattle.std.proofs.Common.{◌≡◌, ◌-◌, ◌^◌, ◌<◌, ◌≤◌, length, Some, arith, rules}
use Rattle.std.specs.List.{slice_get}
use Rattle.journal.proofs.LineParts.{line_too_long, line_fits}
use Rattle.journal.proofs.lines.entry_line.Goals as goal

pub returns-then-length-out : goal.returns-then-length-out
returns-then-length-out g c =
    let entry = slice_get (g.R.Reading.entries c.args.journal.now) c.args.k in
    let measured : c.put_line.result ≡ Some c.in_ok-length.length = search rules in
    let long : length c.args.out.now < c.in_ok-length.length = omega arith in
    let refused = line_too_long entry c.args.k _ _ c.put_line.new.out c.args.out.now (rw measured at c.put_line.ensures) long in
    record { answer = refused.0; bytes = refused.1 }

pub returns : goal.returns
returns g c =
    let entry = slice_get (g.R.Reading.entries c.args.journal.now) c.args.k in
    let measured : c.put_line.result ≡ Some c.in_ok-length.length = search rules in
    let fits : c.in_ok-length.length ≤ length c.args.out.now = omega arith in
    let small : length c.args.out.now < 2 ^ 64 - 1 = search rules in
    let done = line_fits entry c.args.k _ _ c.put_line.new.out c.args.out.now c.put_line-2.new.out _ (rw measured at c.put_line.ensures) fits small c.put_line-2.ensures in
    record { answer = done.0; bytes = done.1 }
