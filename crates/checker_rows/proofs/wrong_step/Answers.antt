-- `checker_rows::wrong_step` meets its contract.
use borrow.Author.Rules.{rules}
use Rattle.checker_rows.proofs.Ways.{has_header, state_inside, steps_inside, action_inside, target_inside, step_not_enabled, step_enabled}
use Rattle.checker_rows.proofs.wrong_step.Goals as goal

ruleset all = (rules, has_header, state_inside, steps_inside, action_inside, target_inside, step_not_enabled, step_enabled)

pub row_state-x-requires : goal.row_state-x-requires
row_state-x-requires c = search all

pub step_action-requires : goal.step_action-requires
step_action-requires c = search all

pub enum_told-1 : goal.enum_told-1
enum_told-1 c = search all

pub returns-in_default : goal.returns-in_default
returns-in_default c = search all

pub step_target-requires : goal.step_target-requires
step_target-requires c = search all

pub row_state-requires : goal.row_state-requires
row_state-requires c = search all

pub returns : goal.returns
returns c = search all

pub target-requires : goal.target-requires
target-requires c = search all
