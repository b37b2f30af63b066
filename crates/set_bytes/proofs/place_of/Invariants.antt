-- The loop keeps what `NotEarlier` says: the candidate is not earlier than any of the first i.
use Rattle.set_bytes.proofs.Placing.{NotEarlier}
use Rattle.set_bytes.proofs.place_of.Given as goal

abbrev pub invariant-loop-i : goal.invariant-loop-i
invariant-loop-i l = NotEarlier l.n l.room l.order l.i l.c
