-- `file_table::row_count` meets its contract.
use borrow.Author.Rules.{rules}
use Rattle.area_bytes.proofs.Numbers.{cast_byte}
use Rattle.file_table.proofs.Places.{count_there, count_fits, count_read}
use Rattle.file_table.proofs.row_count.Goals as goal

ruleset all = (rules, cast_byte, count_there, count_fits, count_read)

pub table_layout-layout-requires : goal.table_layout-layout-requires
table_layout-layout-requires c = search all

pub row_place-p-requires : goal.row_place-p-requires
row_place-p-requires c = search all

pub overflow_add-result : goal.overflow_add-result
overflow_add-result c = search all

pub bounds-bytes-p : goal.bounds-bytes-p
bounds-bytes-p c = search all

pub overflow_cast-result : goal.overflow_cast-result
overflow_cast-result c = search all

pub returns : goal.returns
returns c = search all
