-- `file_table::row_first` meets its contract.
use borrow.Author.Rules.{rules}
use Rattle.file_table.proofs.Places.{count_fits, first_there, first_fits, first_read}
use Rattle.file_table.proofs.row_first.Goals as goal

ruleset all = (rules, count_fits, first_there, first_fits, first_read)

pub table_layout-layout-requires : goal.table_layout-layout-requires
table_layout-layout-requires c = search all

pub row_place-requires : goal.row_place-requires
row_place-requires c = search all

pub overflow_add-row_place : goal.overflow_add-row_place
overflow_add-row_place c = search all

pub overflow_add-row_place-2 : goal.overflow_add-row_place-2
overflow_add-row_place-2 c = search all

pub two_bytes-requires : goal.two_bytes-requires
two_bytes-requires c = search all

pub returns : goal.returns
returns c = search all
