use borrow.Author.Rules.{rules}
use Rattle.maker_order.proofs.Ways.{searching_start, searching_more, searching_end, listed_below}
use Rattle.maker_order.proofs.expand_all.Goals as goal

ruleset all = (rules, searching_start, searching_more, searching_end, listed_below)

pub loop-r-init : goal.loop-r-init
loop-r-init c = search all

pub overflow_mul-r : goal.overflow_mul-r
overflow_mul-r c = search all

pub overflow_add-r : goal.overflow_add-r
overflow_add-r c = search all

pub two_bytes-i-requires : goal.two_bytes-i-requires
two_bytes-i-requires c = search all

pub expand-rows-requires : goal.expand-rows-requires
expand-rows-requires c = search all

pub overflow_add-r-in-loop-r : goal.overflow_add-r-in-loop-r
overflow_add-r-in-loop-r c = search all

pub loop-r-smaller : goal.loop-r-smaller
loop-r-smaller c = search all

pub loop-r-preserved : goal.loop-r-preserved
loop-r-preserved c = search all

pub shape_of-area : goal.shape_of-area
shape_of-area c = search all

pub returns : goal.returns
returns c = search all
