-- `maker_marks::mark_pair` meets its contract.
use mathlib.Core.Path.{refl}
use borrow.Author.Tests.{not-true, not-false}
use Rattle.maker_marks.proofs.Ways.{mark_unsafe, answered_safe, mark_other, mark_first}
use borrow.Author.Rules.{rules}
use Rattle.maker_marks.proofs.mark_pair.Goals as goal

ruleset all = (rules, not-true, not-false, mark_unsafe, mark_other)

pub is_safe-requires : goal.is_safe-requires
is_safe-requires c = search all

pub returns-then-not-is_safe : goal.returns-then-not-is_safe
returns-then-not-is_safe c = search all

pub bounds-marks-i : goal.bounds-marks-i
bounds-marks-i c = search all

pub class-requires : goal.class-requires
class-requires c = search all

pub shape_of-marks-then-class-i : goal.shape_of-marks-then-class-i
shape_of-marks-then-class-i c = search all

pub returns-then-class-i : goal.returns-then-class-i
returns-then-class-i c = search all

pub bounds-marks-3000 : goal.bounds-marks-3000
bounds-marks-3000 c = search all

pub shape_of-marks : goal.shape_of-marks
shape_of-marks c = search all

pub returns : goal.returns
returns c = mark_first _ _ _ _ _ refl (search (not-false, answered_safe)) (search rules) (search rules)
