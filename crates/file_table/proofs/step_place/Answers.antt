-- `file_table::step_place` meets its contract.
use borrow.Author.Rules.{rules}
use Rattle.file_table.proofs.Places.{step_number_fits, step_place_fits, step_place_read}
use Rattle.file_table.proofs.step_place.Goals as goal

ruleset all = (rules, step_number_fits, step_place_fits, step_place_read)

pub rows-requires : goal.rows-requires
rows-requires c = search all

pub row_place-requires : goal.row_place-requires
row_place-requires c = search all

pub overflow_mul-result : goal.overflow_mul-result
overflow_mul-result c = search all

pub overflow_add-result : goal.overflow_add-result
overflow_add-result c = search all

pub returns : goal.returns
returns c = search all
