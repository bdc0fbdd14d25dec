use Rattle.std.proofs.Common.{◌≡◌, ◌≤◌, drop}
use Rattle.batch_table.specs.InOrder.{unbegun}
use Rattle.batch_table.proofs.Orderly.{order_from}
use Rattle.batch_table.proofs.in_order.records_in_order.Given as goal

-- what is left to test decides the whole
abbrev pub invariant-loop-posting : goal.invariant-loop-posting
invariant-loop-posting l =
    (l.reached.here ≤ 4096)
    × (order_from l.houses l.end l.reached (drop l.posting-index l.postings) ≡ order_from l.houses l.end unbegun l.postings)
