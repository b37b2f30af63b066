use Rattle.why_path.proofs.Writing.{writing_none, some_left, list_inside, falls_back, writing_more, way_written}
use borrow.Author.Rules.{rules}
use Rattle.why_path.proofs.write_way.Goals as goal

ruleset all = (rules, writing_none, some_left, list_inside, falls_back, writing_more, way_written)

pub loop-j-init : goal.loop-j-init
loop-j-init c = search all

pub overflow_sub-k : goal.overflow_sub-k
overflow_sub-k c = search all

pub overflow_add-list : goal.overflow_add-list
overflow_add-list c = search all

pub bounds-ways-j : goal.bounds-ways-j
bounds-ways-j c = search all

pub bounds-list-k : goal.bounds-list-k
bounds-list-k c = search all

pub from-j-requires : goal.from-j-requires
from-j-requires c = search all

pub loop-j-smaller : goal.loop-j-smaller
loop-j-smaller c = search all

pub loop-j-preserved : goal.loop-j-preserved
loop-j-preserved c = search all

pub shape_of-list : goal.shape_of-list
shape_of-list c = search all

pub returns : goal.returns
returns c = search all
