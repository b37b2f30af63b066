use Rattle.maker_marks.proofs.Ways.{safe_start, safe_more, safe_end}
use borrow.Author.Rules.{rules}
use Rattle.maker_marks.proofs.mark_safe.Goals as goal

ruleset all = (rules, safe_start, safe_more, safe_end)

pub loop-i-init : goal.loop-i-init
loop-i-init c = search all

pub bounds-flags-i : goal.bounds-flags-i
bounds-flags-i c = search all

pub bounds-marks-i : goal.bounds-marks-i
bounds-marks-i c = search all

pub loop-i-preserved : goal.loop-i-preserved
loop-i-preserved c = search all

pub shape_of-marks : goal.shape_of-marks
shape_of-marks c = search all

pub returns : goal.returns
returns c = search all
