-- `alternative_bytes::asks_from` meets its contract, by the laws of Ways.
use Prim.Native.Nat.{◌-◌}
use Rattle.alternative_bytes.proofs.Ways.{Asking}
use Rattle.alternative_bytes.proofs.asks_from.Given as goal

abbrev pub invariant-loop-k : goal.invariant-loop-k
invariant-loop-k l = Asking l.book l.n l.area l.p l.q l.k

abbrev pub decreases-loop-k : goal.decreases-loop-k
decreases-loop-k l = l.n - l.k
