-- `alternative_bytes::past_eights` meets its contract, by the laws of Ways.
use Prim.Native.Nat.{◌-◌}
use Rattle.alternative_bytes.specs.Promises.{EqualTo}
use Rattle.alternative_bytes.proofs.past_eights.Given as goal

abbrev pub invariant-loop-i : goal.invariant-loop-i
invariant-loop-i l = EqualTo l.n l.area l.p l.q l.k l.i

abbrev pub decreases-loop-i : goal.decreases-loop-i
decreases-loop-i l = l.n - l.i
