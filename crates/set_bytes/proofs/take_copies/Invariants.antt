-- The loop keeps what `AllTaken` says of the first i.
use Prim.Native.Nat.{◌≤◌}
use Rattle.set_bytes.specs.Promises.{AllTaken}
use Rattle.set_bytes.proofs.take_copies.Given as goal

abbrev pub invariant-loop-i : goal.invariant-loop-i
invariant-loop-i l = AllTaken l.n l.sets l.p l.i l.initial.room l.initial.order l.room l.order × (l.i ≤ l.a)
