use Rattle.std.proofs.Common.{◌≡◌, drop}
use Rattle.journal.specs.Writing.{written, state}
use Rattle.journal.proofs.line_buffer.LineBuffer.put_all.Given as goal

-- what is left to write, written from here, gives what all the bytes give, written from the start
abbrev pub invariant-loop-byte : goal.invariant-loop-byte
invariant-loop-byte l =
    (written (drop l.byte-index l.bytes) (state l.self) ≡ written l.bytes (state l.initial.self)) × (l.self.out.ghost_name ≡ l.initial.self.out.ghost_name)
