use Rattle.pair_graph.proofs.Lists.{listing_first, listing_cell, listed_pair}
use borrow.Author.Rules.{rules}
use Rattle.pair_graph.proofs.predecessors.list_pair.Goals as goal

ruleset all = (rules, listing_first, listing_cell, listed_pair)

pub loop-a-init : goal.loop-a-init
loop-a-init c = search all

pub list_cell-requires : goal.list_cell-requires
list_cell-requires c = record { holds_graph = search rules; lists_end_in_bounds = search rules; i_lt_n = search rules; a_lt_actions = search rules; listed = search rules }

pub loop-a-preserved : goal.loop-a-preserved
loop-a-preserved c = search all

pub shape_of-area : goal.shape_of-area
shape_of-area c = search all

pub returns : goal.returns
returns c = search all
