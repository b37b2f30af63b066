-- `file_table::places_right` meets its contract.
use borrow.Author.Rules.{rules}
use Rattle.logic.specs.TableFile.{rows_at, step_size}
use borrow.Author.Tests.{not-true, not-false}
use Rattle.file_table.proofs.Ways.{offsets_wrong, size_left, steps_fit, size_fits}
use Rattle.file_table.proofs.places_right.Goals as goal

ruleset all = (rules, not-true, not-false, offsets_wrong, size_left, steps_fit, size_fits)

pub offsets_right-requires : goal.offsets_right-requires
unfolding rows_at step_size
offsets_right-requires c = search all

pub returns-then-not-offsets_right : goal.returns-then-not-offsets_right
unfolding rows_at step_size
returns-then-not-offsets_right c = search all

pub two_bytes-requires : goal.two_bytes-requires
unfolding rows_at step_size
two_bytes-requires c = search all

pub row_place-steps_at-requires : goal.row_place-steps_at-requires
unfolding rows_at step_size
row_place-steps_at-requires c = search all

pub two_bytes-requires-2 : goal.two_bytes-requires-2
unfolding rows_at step_size
two_bytes-requires-2 c = search all

pub overflow_mul-result : goal.overflow_mul-result
unfolding rows_at step_size
overflow_mul-result c = search all

pub overflow_add-result : goal.overflow_add-result
unfolding rows_at step_size
overflow_add-result c = search all

pub returns : goal.returns
unfolding rows_at step_size
returns c = search all
