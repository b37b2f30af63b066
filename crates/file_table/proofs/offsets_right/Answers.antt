-- `file_table::offsets_right` meets its contract.
use borrow.Author.Rules.{rules}
use Rattle.logic.specs.TableFile.{rows_at}
use Rattle.file_table.proofs.Ways.{rows_offset_wrong, steps_offset_left}
use Rattle.file_table.proofs.offsets_right.Goals as goal

ruleset all = (rules, rows_offset_wrong, steps_offset_left)

pub two_bytes-requires : goal.two_bytes-requires
unfolding rows_at
two_bytes-requires c = search all

pub returns-then-two_bytes-ne-ROWS_AT : goal.returns-then-two_bytes-ne-ROWS_AT
unfolding rows_at
returns-then-two_bytes-ne-ROWS_AT c = search all

pub two_bytes-requires-2 : goal.two_bytes-requires-2
unfolding rows_at
two_bytes-requires-2 c = search all

pub row_place-steps_at-requires : goal.row_place-steps_at-requires
unfolding rows_at
row_place-steps_at-requires c = search all

pub two_bytes-requires-3 : goal.two_bytes-requires-3
unfolding rows_at
two_bytes-requires-3 c = search all

pub returns : goal.returns
unfolding rows_at
returns c = search all
