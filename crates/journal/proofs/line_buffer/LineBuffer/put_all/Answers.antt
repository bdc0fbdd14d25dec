use Rattle.std.proofs.Common.{sym, ◌∙◌}
use Rattle.journal.specs.Writing.{state}
use Rattle.journal.proofs.Written.{written_next, written_none}
use Rattle.journal.proofs.line_buffer.LineBuffer.put_all.Goals as goal

pub loop-byte-preserved : goal.loop-byte-preserved
loop-byte-preserved c =
    (written_next c.args.bytes.now c.loop-byte.byte-index _ _ c.loop-byte-test.true c.put.ensures.bytes ∙ c.loop-byte.invariant.0, c.put.ensures.lender ∙ c.loop-byte.invariant.1)

pub returns : goal.returns
returns c = record {
  bytes = sym (written_none c.args.bytes.now c.loop-byte.byte-index (state c.loop-byte.self) c.loop-byte-test.false) ∙ c.loop-byte.invariant.0;
  lender = c.loop-byte.invariant.1;
}
