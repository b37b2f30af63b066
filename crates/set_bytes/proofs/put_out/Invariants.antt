-- The loop keeps what `PuttingOut` says: the first i are written.
use Rattle.set_bytes.proofs.Output.{PuttingOut}
use Rattle.set_bytes.proofs.put_out.Given as goal

abbrev pub invariant-loop-i : goal.invariant-loop-i
invariant-loop-i l = PuttingOut l.n l.room l.order l.r l.initial.sets l.to l.sets l.i
