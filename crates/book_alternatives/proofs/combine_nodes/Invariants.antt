-- `book_alternatives::combine_nodes` meets its contract, by the laws of Combining.
use Prim.Native.Nat.{◌-◌}
use Rattle.book_alternatives.proofs.Combining.{NodesGoing}
use Rattle.book_alternatives.proofs.combine_nodes.Given as goal

abbrev pub invariant-loop-k : goal.invariant-loop-k
invariant-loop-k l = NodesGoing l.book l.n l.mask l.d l.old l.from l.count l.initial.sets l.initial.room l.left l.k l.sets l.room

abbrev pub decreases-loop-k : goal.decreases-loop-k
decreases-loop-k l = l.n - l.k
