-- `book_progression::progress_nodes` meets its contract, by the laws of Stepping.
use Prim.Native.Nat.{◌-◌}
use Rattle.book_progression.proofs.Stepping.{NodesGoing}
use Rattle.book_progression.proofs.progress_nodes.Given as goal

abbrev pub invariant-loop-k : goal.invariant-loop-k
invariant-loop-k l = NodesGoing l.book l.count l.mask l.d l.initial.area l.from l.to l.area l.k

abbrev pub decreases-loop-k : goal.decreases-loop-k
decreases-loop-k l = l.count - l.k
