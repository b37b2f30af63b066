-- The loop keeps `Going`.
use Rattle.program_texts.proofs.Ways.{Going}
use Rattle.program_texts.proofs.put_bytes.Given as goal

abbrev pub invariant-loop-byte : goal.invariant-loop-byte
invariant-loop-byte l = Going l.bytes l.initial.out l.at l.out l.next l.byte-index
