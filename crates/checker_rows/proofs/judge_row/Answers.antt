-- `checker_rows::judge_row` meets its contract.
use borrow.Author.Rules.{rules}
use Rattle.checker_rows.proofs.Ways.{row_withheld, row_wrong_step, row_stopped, row_right}
use Rattle.checker_rows.proofs.judge_row.Goals as goal

ruleset all = (rules, row_withheld, row_wrong_step, row_stopped, row_right)

pub some_withheld-requires : goal.some_withheld-requires
some_withheld-requires c = search all

pub returns-then-some_withheld : goal.returns-then-some_withheld
returns-then-some_withheld c = search all

pub some_wrong_step-requires : goal.some_wrong_step-requires
some_wrong_step-requires c = search all

pub returns-then-some_wrong_step : goal.returns-then-some_wrong_step
returns-then-some_wrong_step c = search all

pub stopped-requires : goal.stopped-requires
stopped-requires c = search all

pub returns-then-stopped : goal.returns-then-stopped
returns-then-stopped c = search (row_stopped, c.if-stopped.true, c.stopped.ensures, c.if-some_wrong_step.false, c.some_wrong_step.ensures, c.if-some_withheld.false, c.some_withheld.ensures)

pub returns : goal.returns
returns c = search all
