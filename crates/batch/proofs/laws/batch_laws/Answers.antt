use Rattle.std.proofs.Common.{refl}
use Rattle.batch.proofs.Forth.{reads_back}
use Rattle.batch.proofs.Told.{writes_back, one_way}
use Rattle.batch.proofs.laws.batch_laws.Goals as goal

pub returns : goal.returns
returns c = record { bytes = refl; writes = writes_back; reads = reads_back; one_way = one_way }
