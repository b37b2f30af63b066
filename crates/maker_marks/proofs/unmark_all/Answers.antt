-- `maker_marks::unmark_all` meets its contract.
use Rattle.maker_marks.proofs.Ways.{marks_long, cleared_long, cleared_room, unmarked_long, unmarked}
use borrow.Author.Rules.{rules}
use Rattle.maker_marks.proofs.unmark_all.Goals as goal

ruleset all = (rules, marks_long, cleared_long, cleared_room, unmarked_long, unmarked)

pub slice_bounds-clear-end : goal.slice_bounds-clear-end
slice_bounds-clear-end c = search all

pub slice_bounds-clear-end-2 : goal.slice_bounds-clear-end-2
slice_bounds-clear-end-2 c = search all

pub clear-requires : goal.clear-requires
clear-requires c = search all

pub bounds-marks-3000 : goal.bounds-marks-3000
bounds-marks-3000 c = search all

pub shape_of-marks : goal.shape_of-marks
shape_of-marks c = search all

pub returns : goal.returns
returns c = search all
