-- `maker_marks::mark_with_first` meets its contract.
use borrow.Author.Tests.{not-true, not-false}
use Rattle.maker_marks.proofs.Ways.{first_unsafe, first_unmarked, first_marked}
use borrow.Author.Rules.{rules}
use Rattle.maker_marks.proofs.mark_with_first.Goals as goal

ruleset all = (rules, not-true, not-false, first_unsafe, first_marked)

pub is_safe-requires : goal.is_safe-requires
is_safe-requires c = search all

pub returns-then-not-is_safe : goal.returns-then-not-is_safe
returns-then-not-is_safe c = search all

pub class-first-requires : goal.class-first-requires
class-first-requires c = search all

pub is_marked-requires : goal.is_marked-requires
is_marked-requires c = search all

pub shape_of-marks-then-not-is_marked : goal.shape_of-marks-then-not-is_marked
shape_of-marks-then-not-is_marked c = search all

pub returns-then-not-is_marked : goal.returns-then-not-is_marked
returns-then-not-is_marked c = first_unmarked _ _ _ _ _ _ c.class-first.ensures c.is_marked.ensures (search not-true)

pub bounds-marks-i : goal.bounds-marks-i
bounds-marks-i c = search all

pub shape_of-marks : goal.shape_of-marks
shape_of-marks c = search all

pub returns : goal.returns
returns c = search all
