use Rattle.std.proofs.Common.{w64, SFits, rules}
use Rattle.std.proofs.lemmas.Int.{to_z-of_z}
use Rattle.journal.proofs.LineParts.{line_from_parts}
use Rattle.journal.proofs.lines.put_line.Goals as goal

pub returns : goal.returns
returns g c =
    let fits : SFits w64 c.in_ok-hand.hand = search rules in
    line_from_parts _ _ _ _ _ _ _ _ _ _ _ _ _
    c.in_ok-id.ensures c.in_ok-void.ensures c.in_ok-hand.ensures c.in_ok-count.ensures
    (to_z-of_z w64 c.in_ok-hand.hand fits) c.new-line.ensures.start c.put_head.ensures c.put_pairs.ensures c.put.ensures (search rules)
