-- `file_table::row_place` meets its contract.
use borrow.Author.Rules.{rules}
use Rattle.file_table.proofs.Places.{width_most, row_number, row_place_read}
use Rattle.file_table.proofs.row_place.Goals as goal

ruleset all = (rules, width_most, row_number, row_place_read)

pub table_layout-requires : goal.table_layout-requires
table_layout-requires c = search all

pub row_at-requires : goal.row_at-requires
row_at-requires c = search all

pub returns : goal.returns
returns c = search all
