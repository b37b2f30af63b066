-- `pair_search::explore` meets its contract.
use borrow.Author.Rules.{rules}
use Rattle.pair_search.proofs.Exploring.{width_right}
use Rattle.pair_search.proofs.explore.Goals as goal

ruleset all = (rules, width_right)

pub two_timed-wide-requires : goal.two_timed-wide-requires
two_timed-wide-requires c = search all

pub begin-requires : goal.begin-requires
begin-requires c = record { walkable = search all; entries_size_in_bounds = search all; index_size_in_bounds = search all }

pub explore_on-requires : goal.explore_on-requires
explore_on-requires c = record { walkable = search all; wide_right = search all; search_begun = search all; index_size_in_bounds = search all; graph_size_in_bounds = search all; sets_size_in_bounds = search all; room_size_in_bounds = search all }

pub shape_of-pairs : goal.shape_of-pairs
shape_of-pairs c = search all

pub shape_of-index : goal.shape_of-index
shape_of-index c = search all

pub shape_of-graph : goal.shape_of-graph
shape_of-graph c = search all

pub shape_of-sets : goal.shape_of-sets
shape_of-sets c = search all

pub shape_of-room : goal.shape_of-room
shape_of-room c = search all

pub returns : goal.returns
returns c = search all
