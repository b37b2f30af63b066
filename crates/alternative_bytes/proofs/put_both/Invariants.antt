-- `alternative_bytes::put_both` meets its contract, by the laws of Ways.
use Prim.Native.Nat.{◌-◌}
use Rattle.alternative_bytes.proofs.Ways.{Merging}
use Rattle.alternative_bytes.proofs.put_both.Given as goal

abbrev pub invariant-loop-k : goal.invariant-loop-k
invariant-loop-k l = Merging l.book l.n l.sets l.p l.q l.initial.room l.to l.room l.k

abbrev pub decreases-loop-k : goal.decreases-loop-k
decreases-loop-k l = l.n - l.k
