-- `file_table::reachable_steps` meets its contract.
use borrow.Author.Rules.{rules}
use Rattle.file_table.proofs.Ways.{reachable_all, reachable_some}
use Rattle.file_table.proofs.reachable_steps.Goals as goal

ruleset all = (rules, reachable_all, reachable_some)

pub returns-then-count-action : goal.returns-then-count-action
returns-then-count-action c = search all

pub overflow_add-result : goal.overflow_add-result
overflow_add-result c = search all

pub returns : goal.returns
returns c = search all
