use Rattle.why_path.proofs.Writing.{counting_none, pair_noted, falls, counting_more, counted}
use borrow.Author.Rules.{rules}
use Rattle.why_path.proofs.way_length.Goals as goal

ruleset all = (rules, counting_none, pair_noted, falls, counting_more, counted)

pub loop-j-init : goal.loop-j-init
loop-j-init c = search all

pub from-j-requires : goal.from-j-requires
from-j-requires c = search all

pub overflow_add-count : goal.overflow_add-count
overflow_add-count c = search all

pub loop-j-smaller : goal.loop-j-smaller
loop-j-smaller c = search all

pub loop-j-preserved : goal.loop-j-preserved
loop-j-preserved c = search all

pub returns : goal.returns
returns c = search all
