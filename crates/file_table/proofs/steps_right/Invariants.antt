-- The loop keeps `StepsLeft`, and the steps that are left become fewer.
use Prim.Native.Nat.{◌-◌}
use Rattle.file_table.proofs.Ways.{StepsLeft}
use Rattle.file_table.proofs.steps_right.Given as goal

abbrev pub invariant-loop-i : goal.invariant-loop-i
invariant-loop-i l = StepsLeft l.bytes l.first l.count l.end l.low l.i
