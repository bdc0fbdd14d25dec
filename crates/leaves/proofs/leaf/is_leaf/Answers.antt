use Rattle.std.proofs.Common.{refl}
use Rattle.leaves.proofs.LeafTest.{no_entry_lem, compared}
use Rattle.leaves.proofs.leaf.is_leaf.Goals as goal

pub returns-then-is_entry : goal.returns-then-is_entry
returns-then-is_entry c =
    compared c.args.leaf.now c.decode-e.result c.is_leaf_of.result c.decode-e.ensures.says (c.if-is_entry.ensures.decides.0 refl) c.is_leaf_of.ensures

pub returns-else-is_entry : goal.returns-else-is_entry
returns-else-is_entry c =
    no_entry_lem c.args.leaf.now c.decode-e.result c.is_entry.result c.decode-e.ensures.says c.decode-e.ensures.count
    c.if-is_entry.false c.is_entry.ensures.decides
