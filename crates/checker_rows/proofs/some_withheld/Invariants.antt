-- The loop keeps what `Left` says: the actions from here on decide. They become fewer.
use Prim.Native.Nat.{◌-◌}
use Rattle.base.specs.Lists.{some_of}
use Rattle.logic.specs.Tower.{tower_of}
use Rattle.reading.specs.TableReading.{table_of}
use Rattle.outcome.specs.Check.{withheld}
use Rattle.area_bytes.proofs.Scans.{Left}
use Rattle.checker_rows.proofs.some_withheld.Given as goal

abbrev pub invariant-loop-a : goal.invariant-loop-a
invariant-loop-a l = Left (some_of (withheld (tower_of l.tower) (table_of l.table) l.r)) 0 l.actions l.actions l.a
