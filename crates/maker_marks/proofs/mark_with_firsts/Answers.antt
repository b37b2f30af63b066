use Rattle.maker_marks.proofs.Ways.{firsts_none, firsts_start, firsts_most, firsts_more, firsts_end}
use borrow.Author.Rules.{rules}
use Rattle.maker_marks.proofs.mark_with_firsts.Goals as goal

ruleset all = (rules, firsts_none, firsts_start, firsts_end)

pub bounds-marks-3000 : goal.bounds-marks-3000
bounds-marks-3000 c = search all

pub returns-then-marks-ne-MARKED : goal.returns-then-marks-ne-MARKED
returns-then-marks-ne-MARKED c = search all

pub loop-i-init : goal.loop-i-init
loop-i-init c = search all

pub mark_with_first-requires : goal.mark_with_first-requires
mark_with_first-requires c = record { i_in_bounds = search all; i_in_bounds_2 = search all; i_in_bounds_3 = search all; i_bound = search firsts_most }

pub loop-i-preserved : goal.loop-i-preserved
loop-i-preserved c = firsts_more _ _ _ _ _ _ _ c.requires c.mark_with_first.ensures c.loop-i.invariant (search rules) (search rules)

pub shape_of-marks : goal.shape_of-marks
shape_of-marks c = search all

pub returns : goal.returns
returns c = search all
