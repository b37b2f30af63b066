-- `pair_search::begin` meets its contract.
use borrow.Author.Rules.{rules}
use Rattle.pair_search.proofs.Exploring.{start_small, start_headed, start_size, start_ready}
use Rattle.pair_search.proofs.begin.Goals as goal

ruleset all = (rules, start_small, start_headed, start_size, start_ready)

pub start-x-requires : goal.start-x-requires
start-x-requires c = search all

pub begin-requires : goal.begin-requires
begin-requires c = record { held = search all; number_bound = search all; entries_size_in_bounds = search all }

pub begin-requires-2 : goal.begin-requires-2
begin-requires-2 c = record { headed = search all; entries_size_in_bounds = search all; index_size_in_bounds = search all }

pub shape_of-pairs : goal.shape_of-pairs
shape_of-pairs c = search all

pub shape_of-index : goal.shape_of-index
shape_of-index c = search all

pub returns : goal.returns
returns c = search all
