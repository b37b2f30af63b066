use Rattle.maker_removal.proofs.Turns.{work_start, work_ready, work_more, work_end}
use borrow.Author.Rules.{rules}
use Rattle.maker_removal.proofs.work_off.Goals as goal

ruleset all = (rules, work_start, work_ready, work_more, work_end)

pub loop-height-init : goal.loop-height-init
loop-height-init c = search all

pub take_one-height-requires : goal.take_one-height-requires
take_one-height-requires c = record { removal_input = search work_ready; height_nonzero = search rules; removing = search rules }

pub loop-height-smaller : goal.loop-height-smaller
loop-height-smaller c = search all

pub loop-height-preserved : goal.loop-height-preserved
loop-height-preserved c = search all

pub shape_of-area : goal.shape_of-area
shape_of-area c = search all

pub returns : goal.returns
returns c = search all
