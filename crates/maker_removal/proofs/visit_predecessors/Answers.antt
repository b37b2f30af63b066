use Rattle.maker_removal.proofs.Turns.{follow_start, follow_ready, follow_cell, follow_pair, follow_falls, follow_more, follow_end}
use borrow.Author.Rules.{rules}
use Rattle.maker_removal.proofs.visit_predecessors.Goals as goal

ruleset all = (rules, follow_start, follow_ready, follow_cell, follow_pair, follow_falls, follow_more, follow_end)

pub head-at-requires : goal.head-at-requires
head-at-requires c = search all

pub loop-at-init : goal.loop-at-init
loop-at-init c = search all

pub overflow_sub-c : goal.overflow_sub-c
overflow_sub-c c = search all

pub link-at-requires : goal.link-at-requires
link-at-requires c = search all

pub pair_of-requires : goal.pair_of-requires
pair_of-requires c = search all

pub visit-height-requires : goal.visit-height-requires
visit-height-requires c = record { removal_input = search follow_ready; i_lt_n = search follow_pair; worklist = search rules }

pub loop-at-smaller : goal.loop-at-smaller
loop-at-smaller c = search follow_falls

pub loop-at-preserved : goal.loop-at-preserved
loop-at-preserved c = search follow_more

pub shape_of-area : goal.shape_of-area
shape_of-area c = search all

pub returns : goal.returns
returns c = search follow_end
