use Rattle.std.proofs.Common.{refl}
use Rattle.leaves.proofs.RoundTrip.{reads_back, writes_back}
use Rattle.leaves.proofs.leaf.leaf_laws.Goals as goal

pub returns : goal.returns
returns c = record { bytes = refl; reads = reads_back; writes = writes_back }
