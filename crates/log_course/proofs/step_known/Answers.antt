-- `log_course::step_known` meets its contract.
use borrow.Author.Rules.{rules}
use Rattle.log_course.proofs.Ways.{place_fits, cell_fits, cell_there, note_fits, note_small, told_as, noted_fits, noted_is, noting}
use Rattle.log_course.proofs.step_known.Goals as goal

ruleset all = (rules, place_fits, cell_fits, cell_there, note_fits, note_small, told_as, noted_fits, noted_is, noting)

pub step_to-requires : goal.step_to-requires
step_to-requires c = search all

pub returns-then-action-ge-ACTIONS : goal.returns-then-action-ge-ACTIONS
returns-then-action-ge-ACTIONS c = search all

pub overflow_mul-at : goal.overflow_mul-at
overflow_mul-at c = search all

pub overflow_add-at : goal.overflow_add-at
overflow_add-at c = search all

pub offset_bounds-known-at : goal.offset_bounds-known-at
offset_bounds-known-at c = search all

pub bounds-known-at : goal.bounds-known-at
bounds-known-at c = search all

pub overflow_cast-noted : goal.overflow_cast-noted
overflow_cast-noted c = search all

pub overflow_sub-result : goal.overflow_sub-result
overflow_sub-result c = search all

pub returns-then-noted-gt0 : goal.returns-then-noted-gt0
returns-then-noted-gt0 c = search all

pub step_to-requires-2 : goal.step_to-requires-2
step_to-requires-2 c = search all

pub enum_known-next : goal.enum_known-next
enum_known-next c = search all

pub overflow_add-known : goal.overflow_add-known
overflow_add-known c = search all

pub overflow_cast-known : goal.overflow_cast-known
overflow_cast-known c = search all

pub offset_bounds-known-at-2 : goal.offset_bounds-known-at-2
offset_bounds-known-at-2 c = search all

pub bounds-known-at-2 : goal.bounds-known-at-2
bounds-known-at-2 c = search all

pub shape_of-known : goal.shape_of-known
shape_of-known c = search all

pub returns : goal.returns
returns c = search (all, c.in_ok-next.was)
