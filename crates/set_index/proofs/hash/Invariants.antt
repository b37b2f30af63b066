-- `set_index::hash` meets its contract.
-- The invariant: with the hashes of the alternatives from s on h is the sum of all. The measure: how many are left.
use Rattle.set_index.proofs.Ways.{HashingEntry}
use Rattle.set_index.proofs.hash.Given as goal

abbrev pub invariant-loop-s : goal.invariant-loop-s
invariant-loop-s l = HashingEntry l.entries l.i l.end l.h l.s
