-- `maker_classes::pass::look` meets its contract.
use borrow.Author.Tests.{not-true, not-false}
use Rattle.maker_classes.proofs.Ways.{part_long, part_room, look_there, class_there, first_there, one_fits, look_unmarked, look_alike, look_leaving}
use borrow.Author.Rules.{rules}
use Rattle.maker_classes.proofs.pass.look.Goals as goal

ruleset all = (rules, not-true, not-false, part_long, part_room, look_there, class_there, first_there, one_fits, look_unmarked, look_alike, look_leaving)

pub is_marked-requires : goal.is_marked-requires
is_marked-requires c = search all

pub shape_of-marks-then-not-is_marked : goal.shape_of-marks-then-not-is_marked
shape_of-marks-then-not-is_marked c = search all

pub returns-then-not-is_marked : goal.returns-then-not-is_marked
returns-then-not-is_marked c = search all

pub slice_bounds-class-end : goal.slice_bounds-class-end
slice_bounds-class-end c = search all

pub slice_bounds-class-end-2 : goal.slice_bounds-class-end-2
slice_bounds-class-end-2 c = search all

pub class-first-requires : goal.class-first-requires
class-first-requires c = search all

pub slice_bounds-alike-end : goal.slice_bounds-alike-end
slice_bounds-alike-end c = search all

pub slice_bounds-alike-end-2 : goal.slice_bounds-alike-end-2
slice_bounds-alike-end-2 c = search all

pub alike-requires : goal.alike-requires
alike-requires c = record { flagged_graph = search rules; i_lt_pairs = search first_there; j_lt_pairs = search rules; in_bounds = search part_room }

pub shape_of-area-then-alike : goal.shape_of-area-then-alike
shape_of-area-then-alike c = search all

pub shape_of-marks-then-alike : goal.shape_of-marks-then-alike
shape_of-marks-then-alike c = search all

pub returns-then-alike : goal.returns-then-alike
returns-then-alike c = look_alike _ _ _ _ _ _ _ _ c.requires.passed c.requires.i_lt_pairs _ c.is_marked.ensures _ c.class-first.ensures _ c.alike.ensures c.if-alike.true

pub leave-requires : goal.leave-requires
leave-requires c = record { passed = search rules; leaving = look_leaving _ _ _ _ _ _ _ _ c.requires.passed c.requires.i_lt_pairs _ c.is_marked.ensures _ c.class-first.ensures _ c.alike.ensures (search (rules, not-true, not-false)) (search rules) }

pub overflow_add-result : goal.overflow_add-result
overflow_add-result c = search all

pub shape_of-area : goal.shape_of-area
shape_of-area c = search all

pub shape_of-marks : goal.shape_of-marks
shape_of-marks c = search all

pub returns : goal.returns
returns c = search all
