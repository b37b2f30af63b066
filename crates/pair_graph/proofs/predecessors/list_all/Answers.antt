use Rattle.pair_graph.proofs.Lists.{listing_none, listing_pair, listed_all}
use borrow.Author.Rules.{rules}
use Rattle.pair_graph.proofs.predecessors.list_all.Goals as goal

ruleset all = (rules, listing_none, listing_pair, listed_all)

pub clear-requires : goal.clear-requires
clear-requires c = search all

pub loop-i-init : goal.loop-i-init
loop-i-init c = search all

pub list_pair-requires : goal.list_pair-requires
list_pair-requires c = record { holds_graph = search rules; lists_end_in_bounds = search rules; i_lt_n = search rules; listed = search rules }

pub loop-i-preserved : goal.loop-i-preserved
loop-i-preserved c = search all

pub shape_of-area : goal.shape_of-area
shape_of-area c = search all

pub returns : goal.returns
returns c = search all
