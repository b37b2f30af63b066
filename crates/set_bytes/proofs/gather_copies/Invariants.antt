-- The loop keeps what `Gathered` says of the first i copies.
use Prim.Native.Nat.{◌≤◌}
use Rattle.set_bytes.specs.SetBytes.{copies_of}
use Rattle.set_bytes.specs.Promises.{Gathered}
use Rattle.set_bytes.proofs.gather_copies.Given as goal

abbrev pub invariant-loop-i : goal.invariant-loop-i
invariant-loop-i l = Gathered l.left l.book l.n (copies_of l.sets l.n l.p l.i) l.initial.room l.initial.order l.m l.c l.i l.room l.order × (l.i ≤ l.a)
