-- `maker_removal::visit_predecessors` meets its contract.
-- The invariant: the cells of the list from the present one on have been looked at. The measure: the cell.
use Prim.Native.Nat.{◌+◌}
use Rattle.logic.specs.Tower.{tower_of}
use Rattle.pair_graph.specs.Steps.{safe_in}
use Rattle.pair_graph.specs.Counting.{count}
use Rattle.maker_removal.proofs.Turns.{Following}
use Rattle.maker_removal.proofs.visit_predecessors.Given as goal

abbrev pub invariant-loop-at : goal.invariant-loop-at
invariant-loop-at l = Following (tower_of l.tower) l.n l.graph l.j (count (safe_in l.initial.area) l.n + l.entries) l.initial.area l.at l.area l.height

abbrev pub decreases-loop-at : goal.decreases-loop-at
decreases-loop-at l = l.at
