use Rattle.maker_marks.proofs.Ways.{before_start, before_cell, before_pair, before_falls, before_more, before_end}
use borrow.Author.Rules.{rules}
use Rattle.maker_marks.proofs.mark_before.Goals as goal

ruleset all = (rules, before_cell, before_pair, before_falls, before_more, before_end)

pub head-at-requires : goal.head-at-requires
head-at-requires c = search all

pub loop-at-init : goal.loop-at-init
loop-at-init c = before_start _ _ _ _ _ _ _ _ (search rules) c.head-at.ensures (search rules)

pub overflow_sub-c : goal.overflow_sub-c
overflow_sub-c c = search all

pub link-at-requires : goal.link-at-requires
link-at-requires c = search all

pub pair_of-requires : goal.pair_of-requires
pair_of-requires c = search all

pub mark_pair-requires : goal.mark_pair-requires
mark_pair-requires c = search all

pub loop-at-smaller : goal.loop-at-smaller
loop-at-smaller c = search all

pub loop-at-preserved : goal.loop-at-preserved
loop-at-preserved c = search all

pub shape_of-marks : goal.shape_of-marks
shape_of-marks c = search all

pub returns : goal.returns
returns c = search all
