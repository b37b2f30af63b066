-- `file_tower::fit::bad_masks` meets its contract.
-- The invariant: the numbers from the counter on decide. The measure: how many there are.
use Prim.Native.Nat.{◌-◌}
use Rattle.file_tower.specs.Stages.{bad_mask}
use Rattle.area_bytes.proofs.Scans.{Left}
use Rattle.base.specs.Lists.{some_of}
use Rattle.logic.specs.Tower.{states_of}
use Rattle.file_tower.proofs.fit.bad_masks.Given as goal

abbrev pub invariant-loop-x : goal.invariant-loop-x
invariant-loop-x l = Left (some_of (bad_mask l.bytes)) 0 (states_of l.bytes) l.states l.x
