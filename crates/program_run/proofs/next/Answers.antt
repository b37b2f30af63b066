-- `program_run::next` meets its contract.
use borrow.Author.Rules.{rules}
use Rattle.program_run.proofs.Walks.{action_low, time_fits, walk_on, walk_enabled}
use Rattle.program_run.proofs.Ways.{cast_byte}
use Rattle.program_run.proofs.next.Goals as goal

ruleset all = (rules, cast_byte, action_low, time_fits, walk_on, walk_enabled)

pub step_length-length-requires : goal.step_length-length-requires
step_length-length-requires c = search all

pub target-requires : goal.target-requires
target-requires c = search all

pub returns-in_default : goal.returns-in_default
returns-in_default c = search all

pub overflow_add-result-2 : goal.overflow_add-result-2
overflow_add-result-2 c = search all

pub returns : goal.returns
returns c = search all
