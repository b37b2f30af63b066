-- The loop keeps what `Gathered` says of the first j of the row.
use Prim.Native.Nat.{◌≤◌}
use Rattle.set_bytes.specs.SetBytes.{row_of}
use Rattle.set_bytes.specs.Promises.{Gathered}
use Rattle.set_bytes.proofs.gather_row.Given as goal

abbrev pub invariant-loop-j : goal.invariant-loop-j
invariant-loop-j l = Gathered l.left l.book l.n (row_of l.sets l.n l.p l.q l.j) l.initial.room l.initial.order l.m l.c l.j l.room l.order × (l.j ≤ l.b)
