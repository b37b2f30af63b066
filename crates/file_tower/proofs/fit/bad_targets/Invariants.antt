-- `file_tower::fit::bad_targets` meets its contract.
-- The invariant: the numbers from the counter on decide. The measure: how many there are.
use Prim.Native.Nat.{◌-◌}
use Rattle.file_tower.specs.Stages.{bad_targets_of}
use Rattle.area_bytes.proofs.Scans.{Left}
use Rattle.base.specs.Lists.{some_of}
use Rattle.logic.specs.Tower.{states_of}
use Rattle.file_tower.proofs.fit.bad_targets.Given as goal

abbrev pub invariant-loop-x : goal.invariant-loop-x
invariant-loop-x l = Left (some_of (bad_targets_of l.bytes)) 0 (states_of l.bytes) l.states l.x
