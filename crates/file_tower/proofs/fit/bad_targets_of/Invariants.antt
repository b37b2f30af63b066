-- `file_tower::fit::bad_targets_of` meets its contract.
-- The invariant: the numbers from the counter on decide. The measure: how many there are.
use Prim.Native.Nat.{◌-◌}
use Rattle.file_tower.specs.Stages.{bad_target}
use Rattle.area_bytes.proofs.Scans.{Left}
use Rattle.base.specs.Lists.{some_of}
use Rattle.logic.specs.Tower.{actions_of}
use Rattle.file_tower.proofs.fit.bad_targets_of.Given as goal

abbrev pub invariant-loop-a : goal.invariant-loop-a
invariant-loop-a l = Left (some_of (bad_target l.bytes l.x)) 0 (actions_of l.bytes) l.actions l.a
