-- `file_layout::row_at` meets its contract.
use borrow.Author.Rules.{rules}
use Rattle.file_layout.proofs.Places.{rows_fit, place_fits, place_read}
use Rattle.file_layout.proofs.row_at.Goals as goal

ruleset all = (rules, rows_fit, place_fits, place_read)

pub row_size-requires : goal.row_size-requires
row_size-requires c = search all

pub overflow_mul-result : goal.overflow_mul-result
overflow_mul-result c = search all

pub overflow_add-result : goal.overflow_add-result
overflow_add-result c = search all

pub returns : goal.returns
returns c = search all
