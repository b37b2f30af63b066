-- `file_table::counts_right` meets its contract.
use borrow.Author.Rules.{rules}
use Rattle.logic.specs.Tower.{most_actions}
use Rattle.logic.specs.TableFile.{most_rows, rows_at}
use borrow.Author.Tests.{not-true, not-false}
use Rattle.file_table.proofs.Ways.{rows_out_of_range, states_out_of_range, actions_left}
use Rattle.file_table.proofs.counts_right.Goals as goal

ruleset all = (rules, not-true, not-false, rows_out_of_range, states_out_of_range, actions_left)

pub two_bytes-requires : goal.two_bytes-requires
unfolding most_rows most_actions rows_at
two_bytes-requires c = search all

pub in_range-requires : goal.in_range-requires
unfolding most_rows most_actions rows_at
in_range-requires c = search all

pub returns-then-not-in_range : goal.returns-then-not-in_range
unfolding most_rows most_actions rows_at
returns-then-not-in_range c = search all

pub table_layout-layout-requires : goal.table_layout-layout-requires
unfolding most_rows most_actions rows_at
table_layout-layout-requires c = search all

pub two_bytes-requires-2 : goal.two_bytes-requires-2
unfolding most_rows most_actions rows_at
two_bytes-requires-2 c = search all

pub in_range-requires-2 : goal.in_range-requires-2
unfolding most_rows most_actions rows_at
in_range-requires-2 c = search all

pub returns-then-not-in_range-2 : goal.returns-then-not-in_range-2
unfolding most_rows most_actions rows_at
returns-then-not-in_range-2 c = search all

pub two_bytes-requires-3 : goal.two_bytes-requires-3
unfolding most_rows most_actions rows_at
two_bytes-requires-3 c = search all

pub in_range-requires-3 : goal.in_range-requires-3
unfolding most_rows most_actions rows_at
in_range-requires-3 c = search all

pub returns : goal.returns
unfolding most_rows most_actions rows_at
returns c = search all
