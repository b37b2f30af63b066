-- The rows printed are rows of the table, and fewer are left at each turn.
use Rattle.std.proofs.Common.{◌-◌, ◌≡◌}
use Rattle.reading.specs.TableReading.{rows_of}
use Rattle.make_table.proofs.print_rows.Given as goal

abbrev pub invariant-loop-row : goal.invariant-loop-row
invariant-loop-row g l = l.rows ≡ rows_of l.table
