use Rattle.maker_removal.proofs.Turns.{scan_start, scan_more, scan_end}
use borrow.Author.Rules.{rules}
use Rattle.maker_removal.proofs.visit_all.Goals as goal

ruleset all = (rules, scan_start, scan_more, scan_end)

pub loop-next-init : goal.loop-next-init
loop-next-init c = search all

pub visit-height-requires : goal.visit-height-requires
visit-height-requires c = search all

pub loop-next-preserved : goal.loop-next-preserved
loop-next-preserved c = search all

pub shape_of-area : goal.shape_of-area
shape_of-area c = search all

pub returns : goal.returns
returns c = search all
