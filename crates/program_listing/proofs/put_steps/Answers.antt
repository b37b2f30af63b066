use borrow.Author.Rules.{rules}
use Rattle.file_table.proofs.Laws.{header_of}
use Rattle.program_listing.proofs.Ways.{steps_start, steps_fit, next_fits, steps_on, steps_end}
use Rattle.program_listing.proofs.put_steps.Goals as goal

ruleset all = (rules, header_of, steps_start, steps_fit, next_fits, steps_on, steps_end)

pub row_count-requires : goal.row_count-requires
row_count-requires c = search all

pub overflow_add-end : goal.overflow_add-end
overflow_add-end c = search all

pub loop-i-init : goal.loop-i-init
loop-i-init c = search all

pub step_action-action-requires : goal.step_action-action-requires
step_action-action-requires c = search all

pub step_target-target-requires : goal.step_target-target-requires
step_target-target-requires c = search all

pub put_step-next-requires : goal.put_step-next-requires
put_step-next-requires c = search all

pub loop-i-preserved : goal.loop-i-preserved
loop-i-preserved c = search all

pub shape_of-out : goal.shape_of-out
shape_of-out c = search all

pub returns : goal.returns
returns c = search all

pub row_first-first-requires : goal.row_first-first-requires
row_first-first-requires c = search all
