use borrow.Author.Tests.{not-true, not-false}
use borrow.Author.Rules.{rules}
use Rattle.logic.specs.TableFile.{step_size}
use Rattle.reading.specs.TableReading.{step_place}
use Rattle.file_table.proofs.Laws.{inside}
use Rattle.file_table.proofs.Ways.{steps_start, steps_stop, steps_next, steps_end, low_fits}
use Rattle.file_table.proofs.steps_right.Goals as goal

ruleset all = (rules, not-true, not-false, steps_start, steps_stop, steps_next, steps_end, low_fits)

pub overflow_add-end : goal.overflow_add-end
unfolding step_place step_size
overflow_add-end c = omega inside

pub loop-i-init : goal.loop-i-init
unfolding step_place step_size
loop-i-init c = search all

pub step_right-requires : goal.step_right-requires
unfolding step_place step_size
step_right-requires c = search all

pub returns-then-not-step_right : goal.returns-then-not-step_right
unfolding step_place step_size
returns-then-not-step_right c = search all

pub step_action-low-requires : goal.step_action-low-requires
unfolding step_place step_size
step_action-low-requires c = search rules

pub overflow_add-low : goal.overflow_add-low
unfolding step_place step_size
overflow_add-low c = search all

pub loop-i-preserved : goal.loop-i-preserved
unfolding step_place step_size
loop-i-preserved c = search all

pub returns : goal.returns
unfolding step_place step_size
returns c = search all
