use Rattle.maker_classes.proofs.Ways.{pass_start, pass_more, pass_end}
use borrow.Author.Rules.{rules}
use Rattle.maker_classes.proofs.pass.look_all.Goals as goal

ruleset all = (rules, pass_start, pass_more, pass_end)

pub slice_bounds-clear-count : goal.slice_bounds-clear-count
slice_bounds-clear-count c = search all

pub slice_bounds-clear-start : goal.slice_bounds-clear-start
slice_bounds-clear-start c = search all

pub slice_bounds-clear-end : goal.slice_bounds-clear-end
slice_bounds-clear-end c = search all

pub clear-requires : goal.clear-requires
clear-requires c = search all

pub loop-i-init : goal.loop-i-init
loop-i-init c = (search pass_start, search rules, search rules, search rules)

pub look-separated-requires : goal.look-separated-requires
look-separated-requires c = search all

pub loop-i-preserved : goal.loop-i-preserved
loop-i-preserved c = (search pass_more, search rules, search rules, search rules)

pub shape_of-area : goal.shape_of-area
shape_of-area c = search all

pub shape_of-marks : goal.shape_of-marks
shape_of-marks c = search all

pub returns : goal.returns
returns c = pass_end _ _ _ _ _ _ _ c.requires c.clear.ensures _ _ _ _ c.loop-i.invariant.0 c.loop-i.invariant.3 (search rules)
