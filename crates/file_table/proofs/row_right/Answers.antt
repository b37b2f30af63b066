-- Each return answers what is left of the definition once the tests before it are known.
use borrow.Author.Rules.{rules}
use Rattle.file_table.proofs.Ways.{row_state_high, row_not_packed, row_steps_left}
use Rattle.file_table.proofs.row_right.Goals as goal

ruleset all = (rules, row_state_high, row_not_packed, row_steps_left)

pub returns-then-states-row_state : goal.returns-then-states-row_state
returns-then-states-row_state c = search all

pub returns-then-first_step-first : goal.returns-then-first_step-first
returns-then-first_step-first c = search all

pub returns : goal.returns
returns c = search all
