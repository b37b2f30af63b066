use Rattle.maker_removal.proofs.Flags.{flagging_start, flagging_more, flagging_end}
use borrow.Author.Rules.{rules}
use Rattle.maker_removal.proofs.begin.Goals as goal

ruleset all = (rules, flagging_start, flagging_more, flagging_end)

pub loop-i-init : goal.loop-i-init
loop-i-init c = search all

pub bounds-area-i : goal.bounds-area-i
bounds-area-i c = search all

pub loop-i-preserved : goal.loop-i-preserved
loop-i-preserved c = search all

pub shape_of-area : goal.shape_of-area
shape_of-area c = search all

pub returns : goal.returns
returns c = search all
