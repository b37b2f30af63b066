-- `pair_search::expand` meets its contract.
use borrow.Author.Rules.{rules}
use Rattle.pair_search.proofs.Expanding.{state_written, block_low}
use Rattle.pair_search.proofs.expand.Goals as goal

ruleset all = (rules, state_written, block_low)

pub number-requires : goal.number-requires
number-requires c = record { i_bound = search all; entries_size_in_bounds = search all }

pub put_state-requires : goal.put_state-requires
put_state-requires c = record { graph_size_in_bounds = search all; i_lt_pair_room = search all }

pub follow_all-requires : goal.follow_all-requires
follow_all-requires c = search (rules, state_written)

pub shape_of-pairs : goal.shape_of-pairs
shape_of-pairs c = search all

pub shape_of-index : goal.shape_of-index
shape_of-index c = search all

pub shape_of-graph : goal.shape_of-graph
shape_of-graph c = search all

pub returns : goal.returns
returns c = search all
