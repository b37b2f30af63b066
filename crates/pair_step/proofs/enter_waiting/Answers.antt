-- `pair_step::enter_waiting` meets its contract.
use borrow.Author.Rules.{rules}
use Rattle.area_bytes.proofs.Numbers.{cast_byte}
use Rattle.pair_step.proofs.Entering.{waiting_none, waiting_room, waiting_taken}
use Rattle.pair_step.proofs.enter_waiting.Goals as goal

ruleset all = (rules, cast_byte, waiting_none, waiting_room, waiting_taken)

pub overflow_add-count : goal.overflow_add-count
overflow_add-count c = search all

pub bounds-room-a : goal.bounds-room-a
bounds-room-a c = search all

pub overflow_cast-count : goal.overflow_cast-count
overflow_cast-count c = search all

pub returns-then-count-eq0 : goal.returns-then-count-eq0
returns-then-count-eq0 c = search all

pub overflow_add-place : goal.overflow_add-place
overflow_add-place c = search all

pub bounds-room-a-2 : goal.bounds-room-a-2
bounds-room-a-2 c = search all

pub overflow_cast-place : goal.overflow_cast-place
overflow_cast-place c = search all

pub overflow_mul-at : goal.overflow_mul-at
overflow_mul-at c = search all

pub overflow_add-at : goal.overflow_add-at
overflow_add-at c = search all

pub take-requires : goal.take-requires
take-requires c = record { fact = search all; le_count = search all; count_bound = search all; at_in_bounds = search all; number_bound = search all }

pub shape_of-pairs : goal.shape_of-pairs
shape_of-pairs c = search all

pub returns : goal.returns
returns c = search all
