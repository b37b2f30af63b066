-- The loop keeps what `Left` says: the rows from here on decide. They become fewer.
use Prim.Native.Nat.{◌-◌}
use Rattle.logic.specs.Tower.{tower_of}
use Rattle.reading.specs.TableReading.{table_of}
use Rattle.checker_rows.specs.RowVerdict.{rows_from}
use Rattle.area_bytes.proofs.Scans.{Left}
use Rattle.checker_rows.proofs.judge_rows.Given as goal

abbrev pub invariant-loop-r : goal.invariant-loop-r
invariant-loop-r l = Left (rows_from (tower_of l.tower) (table_of l.table)) 0 l.rows l.rows l.r
