-- `maker_removal::visit_all` meets its contract.
-- The invariant: the pairs below the counter have been looked at. The measure: how many are left.
use Prim.Native.Nat.{◌-◌}
use Rattle.logic.specs.Tower.{tower_of}
use Rattle.maker_removal.proofs.Turns.{ScanningCells}
use Rattle.maker_removal.proofs.visit_all.Given as goal

abbrev pub invariant-loop-next : goal.invariant-loop-next
invariant-loop-next l = ScanningCells (tower_of l.tower) l.n l.graph l.initial.area l.next l.area l.height
