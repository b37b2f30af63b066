-- The loop keeps what `LookingOver` says of the first i.
use Rattle.set_bytes.proofs.Dropping.{LookingOver}
use Rattle.set_bytes.proofs.look_over.Given as goal

abbrev pub invariant-loop-i : goal.invariant-loop-i
invariant-loop-i l = LookingOver l.book l.n l.room l.order l.m l.c l.i l.found
