-- The loop keeps what `Left` says: the steps from here on decide. They become fewer.
use Prim.Native.Nat.{◌-◌}
use Rattle.base.specs.Lists.{every}
use Rattle.reading.specs.TableReading.{row_first, row_count}
use Rattle.checker_rows.proofs.Ways.{stops_at}
use Rattle.area_bytes.proofs.Scans.{Left}
use Rattle.checker_rows.proofs.stopped.Given as goal

abbrev pub invariant-loop-i : goal.invariant-loop-i
invariant-loop-i l = Left (every (stops_at l.tower l.table)) (row_first l.table l.r) (row_count l.table l.r) l.end l.i
