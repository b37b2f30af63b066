use borrow.Author.Rules.{rules}
use Rattle.maker_order.proofs.Ways.{expand_start, expand_more, expand_end}
use Rattle.maker_order.proofs.expand.Goals as goal

ruleset all = (rules, expand_start, expand_more, expand_end)

pub loop-a-init : goal.loop-a-init
loop-a-init c = search all

pub meet_by-met-requires : goal.meet_by-met-requires
meet_by-met-requires c = search all

pub loop-a-preserved : goal.loop-a-preserved
loop-a-preserved c = search all

pub shape_of-area : goal.shape_of-area
shape_of-area c = search all

pub returns : goal.returns
returns c = search all
