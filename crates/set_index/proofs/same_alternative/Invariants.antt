-- `set_index::same_alternative` meets its contract.
-- The invariant: the bytes passed and the last eight are equal, or the alternatives are not.
use Prim.Native.Nat.{◌*◌}
use Rattle.set_index.proofs.Ways.{ComparedBytes}
use Rattle.set_index.proofs.same_alternative.Given as goal

abbrev pub invariant-loop-k : goal.invariant-loop-k
invariant-loop-k l = ComparedBytes l.entries l.s l.t (8 * l.k) l.equal
