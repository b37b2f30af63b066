-- `pair_step::enter` meets its contract.
use borrow.Author.Rules.{rules}
use Rattle.pair_step.proofs.Entering.{enter_open, enter_room, target_small, enter_waited, single_ready}
use Rattle.pair_step.proofs.enter.Goals as goal

ruleset all = (rules, enter_open, enter_room, target_small, enter_waited, single_ready)

pub enter_waiting-requires : goal.enter_waiting-requires
enter_waiting-requires c = record { fact = search all; room_for = search all; number_bound = search all }

pub shape_of-pairs-then-wide : goal.shape_of-pairs-then-wide
shape_of-pairs-then-wide c = search all

pub returns-then-wide : goal.returns-then-wide
returns-then-wide c = search all

pub enter_single-requires : goal.enter_single-requires
enter_single-requires c = record { single = search all; number_bound = search all }

pub shape_of-pairs : goal.shape_of-pairs
shape_of-pairs c = search all

pub returns : goal.returns
returns c = search all
