use borrow.Author.Tests.{not-true, not-false}
use borrow.Author.Rules.{rules}
use Rattle.logic.specs.TableFile.{step_size}
use Rattle.reading.specs.TableReading.{step_place}
use Rattle.file_table.proofs.Laws.{inside}
use Rattle.file_table.proofs.Ways.{rows_start, rows_too_many, rows_stop, rows_next, rows_end}
use Rattle.file_table.proofs.rows_right.Goals as goal

ruleset all = (rules, not-true, not-false, rows_start, rows_too_many, rows_stop, rows_next, rows_end)

pub rows-rows-requires : goal.rows-rows-requires
unfolding step_place step_size
rows-rows-requires c = search rules

pub steps-steps-requires : goal.steps-steps-requires
unfolding step_place step_size
steps-steps-requires c = search rules

pub loop-r-init : goal.loop-r-init
unfolding step_place step_size
loop-r-init c = search all

pub row_count-count-requires : goal.row_count-count-requires
unfolding step_place step_size
row_count-count-requires c = search rules

pub overflow_sub-steps : goal.overflow_sub-steps
unfolding step_place step_size
overflow_sub-steps c = search all

pub returns-then-steps-first : goal.returns-then-steps-first
unfolding step_place step_size
returns-then-steps-first c = search all

pub row_right-requires : goal.row_right-requires
unfolding step_place step_size
row_right-requires c = search all

pub returns-then-not-row_right : goal.returns-then-not-row_right
unfolding step_place step_size
returns-then-not-row_right c = search all

pub overflow_add-first : goal.overflow_add-first
unfolding step_place step_size
overflow_add-first c = omega inside

pub loop-r-preserved : goal.loop-r-preserved
unfolding step_place step_size
loop-r-preserved c = search all

pub returns : goal.returns
unfolding step_place step_size
returns c = search all
