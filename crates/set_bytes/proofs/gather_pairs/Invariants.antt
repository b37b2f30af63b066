-- The loop keeps what `Gathered` says of the first i rows.
use Prim.Native.Nat.{◌*◌, ◌≤◌}
use Rattle.set_bytes.specs.SetBytes.{pairs_of}
use Rattle.set_bytes.specs.Promises.{Gathered}
use Rattle.set_bytes.proofs.gather_pairs.Given as goal

abbrev pub invariant-loop-i : goal.invariant-loop-i
invariant-loop-i l = Gathered l.left l.book l.n (pairs_of l.sets l.n l.p l.i l.q l.b) l.initial.room l.initial.order 0 0 (l.b * l.i) l.room l.order × (l.i ≤ l.a)
