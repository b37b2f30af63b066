-- `set_index::find` meets its contract.
-- The invariant: of the entries passed none is equal. The measure: where the chain goes on, which falls.
use Rattle.set_index.proofs.Ways.{SearchingBucket}
use Rattle.set_index.proofs.find.Given as goal

abbrev pub invariant-loop-at : goal.invariant-loop-at
invariant-loop-at l = SearchingBucket l.entries l.n l.at

abbrev pub decreases-loop-at : goal.decreases-loop-at
decreases-loop-at l = l.at
