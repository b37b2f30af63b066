use borrow.Author.Rules.{rules}
use Rattle.file_table.proofs.Laws.{header_of}
use Rattle.file_table.proofs.Ways.{greater_start, row_end_fits, step_inside, step_found, step_lower, step_greater, steps_past}
use Rattle.file_table.proofs.step_to.Goals as goal

ruleset all = (rules, header_of, greater_start, row_end_fits, step_inside, step_found, step_lower, step_greater, steps_past)

pub row_first-first-requires : goal.row_first-first-requires
row_first-first-requires c = search all

pub row_count-requires : goal.row_count-requires
row_count-requires c = search all

pub reachable_steps-requires : goal.reachable_steps-requires
reachable_steps-requires c = search all

pub overflow_add-end : goal.overflow_add-end
overflow_add-end c = search all

pub loop-i-init : goal.loop-i-init
loop-i-init c = search all

pub step_action-found-requires : goal.step_action-found-requires
step_action-found-requires c = search all

pub step_target-requires : goal.step_target-requires
step_target-requires c = search all

pub returns-then-found-action : goal.returns-then-found-action
returns-then-found-action c = search all

pub returns-then-found-action-2 : goal.returns-then-found-action-2
returns-then-found-action-2 c = search all

pub loop-i-preserved : goal.loop-i-preserved
loop-i-preserved c = search all

pub returns : goal.returns
returns c = search all
