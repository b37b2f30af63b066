-- `pair_search::turn_wide` meets its contract.
use borrow.Author.Rules.{rules}
use Rattle.pair_trial.proofs.Waiting.{room_still}
use Rattle.pair_search.proofs.Expanding.{trial_ready, block_number, block_low, block_space, expand_tried, turned_full, tried_spare, turned_on}
use Rattle.pair_search.proofs.turn_wide.Goals as goal

ruleset all = (rules, trial_ready, block_number, block_low, block_space, room_still, expand_tried)

pub try_all-requires : goal.try_all-requires
try_all-requires c = record { trial = search all; sets_size_in_bounds = search all; room_size_in_bounds = search all }

pub number-x-requires : goal.number-x-requires
number-x-requires c = record { i_bound = search all; entries_size_in_bounds = search all }

pub put_state-requires : goal.put_state-requires
put_state-requires c = record { graph_size_in_bounds = search all; i_lt_pair_room = search all }

pub block-requires : goal.block-requires
block-requires c = record { files = search all; i_bound = search all; entries_size_in_bounds = search all; graph_size_in_bounds = search all; i_lt_pair_room = search all }

pub shape_of-pairs-then-try_all : goal.shape_of-pairs-then-try_all
shape_of-pairs-then-try_all c = search all

pub shape_of-graph-then-try_all : goal.shape_of-graph-then-try_all
shape_of-graph-then-try_all c = search all

pub shape_of-sets-then-try_all : goal.shape_of-sets-then-try_all
shape_of-sets-then-try_all c = search all

pub shape_of-room-then-try_all : goal.shape_of-room-then-try_all
shape_of-room-then-try_all c = search all

pub returns-then-try_all : goal.returns-then-try_all
returns-then-try_all c = turned_full _ _ _ _ _ _ _ _ _ _ c.requires.turning _ _ _ _ _ _ c.block.ensures c.put_state.ensures
    c.number-x.ensures c.try_all.ensures c.if-try_all.true

pub expand-n-requires : goal.expand-n-requires
expand-n-requires c = expand_tried _ _ _ _ _ _ _ _ _ _ _ _ c.try_all.ensures c.if-try_all.false c.requires.turning
    (search (rules, room_still, c.try_all.auto))

pub shape_of-pairs : goal.shape_of-pairs
shape_of-pairs c = search all

pub shape_of-index : goal.shape_of-index
shape_of-index c = search all

pub shape_of-graph : goal.shape_of-graph
shape_of-graph c = search all

pub shape_of-sets : goal.shape_of-sets
shape_of-sets c = search all

pub shape_of-room : goal.shape_of-room
shape_of-room c = search all

pub returns : goal.returns
returns c = turned_on _ _ _ _ _ _ _ _ _ _ _ c.expand-n.ensures (tried_spare _ _ _ _ _ _ c.try_all.ensures c.if-try_all.false)
