-- `maker_removal::work_off` meets its contract.
-- The invariant: every safe pair is fine among the live ones. The measure: the safe pairs and the entries of the worklist.
use Prim.Native.Nat.{◌+◌}
use Rattle.logic.specs.Tower.{tower_of}
use Rattle.pair_graph.specs.Steps.{safe_in}
use Rattle.pair_graph.specs.Counting.{count}
use Rattle.maker_removal.proofs.Turns.{Working}
use Rattle.maker_removal.proofs.work_off.Given as goal

abbrev pub invariant-loop-height : goal.invariant-loop-height
invariant-loop-height l = Working (tower_of l.tower) l.n l.graph l.initial.area l.area l.height

abbrev pub decreases-loop-height : goal.decreases-loop-height
decreases-loop-height l = count (safe_in l.area) l.n + l.height
