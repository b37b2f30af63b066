-- `file_table::row_state` meets its contract.
use borrow.Author.Rules.{rules}
use Rattle.file_table.proofs.Places.{width_least, width_most, state_there, state_read}
use Rattle.file_table.proofs.row_state.Goals as goal

ruleset all = (rules, width_least, width_most, state_there, state_read)

pub table_layout-layout-requires : goal.table_layout-layout-requires
table_layout-layout-requires c = search all

pub row_place-requires : goal.row_place-requires
row_place-requires c = search all

pub number-requires : goal.number-requires
number-requires c = search all

pub returns : goal.returns
returns c = search all
