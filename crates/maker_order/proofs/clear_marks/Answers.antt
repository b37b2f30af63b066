-- `maker_order::clear_marks` meets its contract.
use Rattle.maker_order.proofs.Ways.{marks_cleared}
use borrow.Author.Rules.{rules}
use Rattle.maker_order.proofs.clear_marks.Goals as goal

ruleset all = (rules, marks_cleared)

pub overflow_mul-start : goal.overflow_mul-start
overflow_mul-start c = search all

pub overflow_add-start : goal.overflow_add-start
overflow_add-start c = search all

pub overflow_mul-end : goal.overflow_mul-end
overflow_mul-end c = search all

pub overflow_add-end : goal.overflow_add-end
overflow_add-end c = search all

pub slice_bounds-clear-count : goal.slice_bounds-clear-count
slice_bounds-clear-count c = search all

pub slice_bounds-clear-start : goal.slice_bounds-clear-start
slice_bounds-clear-start c = search all

pub slice_bounds-clear-end : goal.slice_bounds-clear-end
slice_bounds-clear-end c = search all

pub clear-requires : goal.clear-requires
clear-requires c = search all

pub shape_of-area : goal.shape_of-area
shape_of-area c = search all

pub returns : goal.returns
returns c = search all
