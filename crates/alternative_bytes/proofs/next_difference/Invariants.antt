-- `alternative_bytes::next_difference` meets its contract, by the laws of Ways.
use Rattle.alternative_bytes.specs.Promises.{EqualTo}
use Rattle.alternative_bytes.proofs.next_difference.Given as goal

abbrev pub invariant-loop-i : goal.invariant-loop-i
invariant-loop-i l = EqualTo l.n l.area l.p l.q l.k l.i
