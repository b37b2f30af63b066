-- The loop keeps what `Left` says: the steps from here on decide. They become fewer.
use Prim.Native.Nat.{◌-◌}
use Rattle.base.specs.Lists.{some_of}
use Rattle.reading.specs.TableReading.{row_first, row_count}
use Rattle.checker_rows.proofs.Ways.{wrong_at}
use Rattle.area_bytes.proofs.Scans.{Left}
use Rattle.checker_rows.proofs.some_wrong_step.Given as goal

abbrev pub invariant-loop-i : goal.invariant-loop-i
invariant-loop-i l = Left (some_of (wrong_at l.tower l.table l.r)) (row_first l.table l.r) (row_count l.table l.r) l.end l.i
