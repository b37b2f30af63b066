-- The loop keeps `GreaterFrom`, and the steps that are left become fewer.
use Prim.Native.Nat.{◌-◌}
use Rattle.file_table.proofs.Ways.{GreaterFrom}
use Rattle.file_table.proofs.step_to.Given as goal

abbrev pub invariant-loop-i : goal.invariant-loop-i
invariant-loop-i l = GreaterFrom l.bytes l.row l.action l.first l.i
