-- The loop keeps what `Dropping` says: of the first i those that stay are in front.
use Rattle.set_bytes.proofs.Dropping.{Dropping}
use Rattle.set_bytes.proofs.drop_needless.Given as goal

abbrev pub invariant-loop-i : goal.invariant-loop-i
invariant-loop-i l = Dropping l.book l.n l.room l.initial.order l.m l.c l.order l.i l.left
