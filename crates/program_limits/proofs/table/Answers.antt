-- `program_limits::table` meets its contract.
use borrow.Author.Rules.{rules}
use Rattle.logic.specs.Tower.{narrow, most_actions}
use Rattle.logic.specs.TableFile.{most_rows, rows_at, row_size, step_size, steps_at}
use Rattle.program_limits.specs.Longest.{longest_table}
use Rattle.program_limits.proofs.table.Goals as goal

pub returns : goal.returns
unfolding longest_table narrow most_actions most_rows rows_at row_size step_size steps_at
returns c = search rules
