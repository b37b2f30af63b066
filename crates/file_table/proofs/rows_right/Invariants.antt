-- The loop keeps `RowsLeft`, and the rows that are left become fewer.
use Prim.Native.Nat.{◌-◌}
use Rattle.file_table.proofs.Ways.{RowsLeft}
use Rattle.file_table.proofs.rows_right.Given as goal

abbrev pub invariant-loop-r : goal.invariant-loop-r
invariant-loop-r l = RowsLeft l.bytes l.first l.r
