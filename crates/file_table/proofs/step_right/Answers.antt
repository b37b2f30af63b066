-- Each return answers what is left of the definition once the tests before it are known.
use borrow.Author.Rules.{rules}
use Rattle.file_table.proofs.Ways.{step_too_low, step_too_high, step_target_left}
use Rattle.file_table.proofs.step_right.Goals as goal

ruleset all = (rules, step_too_low, step_too_high, step_target_left)

pub returns-then-action-low : goal.returns-then-action-low
returns-then-action-low c = search all

pub returns-then-actions-action : goal.returns-then-actions-action
returns-then-actions-action c = search all

pub returns : goal.returns
returns c = search all
