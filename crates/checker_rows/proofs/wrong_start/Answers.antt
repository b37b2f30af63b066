-- `checker_rows::wrong_start` meets its contract.
use borrow.Author.Rules.{rules}
use Rattle.checker_rows.proofs.Ways.{has_header, row_zero, start_decides}
use Rattle.checker_rows.proofs.wrong_start.Goals as goal

ruleset all = (rules, has_header, row_zero, start_decides)

pub row_state-requires : goal.row_state-requires
row_state-requires c = search all

pub start-requires : goal.start-requires
start-requires c = search all

pub returns : goal.returns
returns c = search all
