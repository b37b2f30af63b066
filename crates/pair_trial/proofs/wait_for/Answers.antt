-- `pair_trial::wait_for` meets its contract.
use borrow.Author.Rules.{rules}
use Rattle.pair_trial.proofs.Waiting.{small_byte, cells_few, second_behind, waits_for}
use Rattle.pair_trial.proofs.wait_for.Goals as goal

ruleset all = (rules, small_byte, cells_few, second_behind, waits_for)

pub node_count-cells-requires : goal.node_count-cells-requires
node_count-cells-requires c = search all

pub overflow_mul-a : goal.overflow_mul-a
overflow_mul-a c = search all

pub overflow_add-a : goal.overflow_add-a
overflow_add-a c = search all

pub set_aside-requires : goal.set_aside-requires
set_aside-requires c = record { cells_le_alternative_size = search all; left_bound = search all; sets_size_in_bounds = search all; to_in_bounds = search all }

pub overflow_cast-room : goal.overflow_cast-room
overflow_cast-room c = search all

pub overflow_add-room : goal.overflow_add-room
overflow_add-room c = search all

pub bounds-room-a : goal.bounds-room-a
bounds-room-a c = search all

pub overflow_cast-room-2 : goal.overflow_cast-room-2
overflow_cast-room-2 c = search all

pub overflow_add-room-2 : goal.overflow_add-room-2
overflow_add-room-2 c = search all

pub bounds-room-a-2 : goal.bounds-room-a-2
bounds-room-a-2 c = search all

pub shape_of-room : goal.shape_of-room
shape_of-room c = search all

pub returns : goal.returns
returns c = search all
