-- `pair_step::enter_single` meets its contract.
use borrow.Author.Rules.{rules}
use Rattle.pair_trial.proofs.Walking.{tower_state_inside}
use Rattle.pair_step.proofs.Entering.{state_inside, single_files, single_open, single_one, single_action, single_low, earlier_leads, earlier_room, enter_taken, enter_asked}
use Rattle.pair_step.proofs.enter_single.Goals as goal

ruleset all = (rules, state_inside, tower_state_inside, single_files, single_open, single_one, single_action, single_low, earlier_leads, earlier_room, enter_taken, enter_asked)

pub number-x-requires : goal.number-x-requires
number-x-requires c = record { i_bound = search all; entries_size_in_bounds = search all }

pub tower_state-z-requires : goal.tower_state-z-requires
tower_state-z-requires c = record { files = search all; x_bound = search all }

pub earlier-requires : goal.earlier-requires
earlier-requires c = record { fit_tower = search all; x_bound = search all; a_bound = search all; graph_size_in_bounds = search all; i_lt_pair_room = search all }

pub take_over-requires : goal.take_over-requires
take_over-requires c = record { move_leads = search (all, c.in-Some.ensures); fact = search all; graph_size_in_bounds = search all; i_lt_pair_room = search all; b_lt_action_room = search (all, c.in-Some.ensures); number_bound = search all }

pub shape_of-pairs-in-Some : goal.shape_of-pairs-in-Some
shape_of-pairs-in-Some c = search all

pub returns-in-Some : goal.returns-in-Some
returns-in-Some c = search all

pub step_length-d-requires : goal.step_length-d-requires
step_length-d-requires c = record { fit_tower = search all; x_bound = search all; a_bound = search all }

pub mask-mask-requires : goal.mask-mask-requires
mask-mask-requires c = record { fit_tower = search all; x_bound = search all }

pub follow-requires : goal.follow-requires
follow-requires c = record { fact = search all; i_lt_n = search all; i_value = search all; number_bound = search all }

pub shape_of-pairs : goal.shape_of-pairs
shape_of-pairs c = search all

pub returns : goal.returns
returns c = search all
