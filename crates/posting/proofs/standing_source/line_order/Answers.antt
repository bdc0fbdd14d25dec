use Rattle.std.proofs.Common.{rules}
use Rattle.posting.proofs.StandingLimits.{good_parts}
use Rattle.posting.proofs.standing_source.line_order.Goals as goal

pub returns-in-2-clause-value : goal.returns-in-2-clause-value
returns-in-2-clause-value c = let floor = (good_parts c.args.o c.requires.0).floor in search rules
