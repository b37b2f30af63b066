-- `pair_trial::try_step` meets its contract.
use borrow.Author.Rules.{rules}
use Rattle.pair_trial.proofs.Trials.{step_over, step_waits, old_inside, sets_still, action_few}
use Rattle.pair_trial.proofs.Waiting.{room_still}
use Rattle.pair_trial.proofs.try_step.Goals as goal

ruleset all = (rules, step_over, step_waits, old_inside, sets_still, room_still, action_few)

pub step_length-d-requires : goal.step_length-d-requires
step_length-d-requires c = record { fit_tower = search all; x_bound = search all; a_bound = search all }

pub mask-mask-requires : goal.mask-mask-requires
mask-mask-requires c = record { fit_tower = search all; x_bound = search all }

pub first-first-requires : goal.first-first-requires
first-first-requires c = record { i_bound = search all; entries_size_in_bounds = search all }

pub overflow_add-i : goal.overflow_add-i
overflow_add-i c = search all

pub first-requires : goal.first-requires
first-requires c = record { i_bound = search all; entries_size_in_bounds = search all }

pub overflow_sub-count : goal.overflow_sub-count
overflow_sub-count c = search all

pub overflow_mul-first : goal.overflow_mul-first
overflow_mul-first c = search all

pub progressed-left-requires : goal.progressed-left-requires
progressed-left-requires c = record { held = search all; count_in_bounds = search all; sets_size_in_bounds = search all; candidates_size_in_bounds = search all }

pub shape_of-sets-then-left-gt-MOST_LEFT : goal.shape_of-sets-then-left-gt-MOST_LEFT
shape_of-sets-then-left-gt-MOST_LEFT c = search all

pub shape_of-room-then-left-gt-MOST_LEFT : goal.shape_of-room-then-left-gt-MOST_LEFT
shape_of-room-then-left-gt-MOST_LEFT c = search all

pub returns-then-left-gt-MOST_LEFT : goal.returns-then-left-gt-MOST_LEFT
returns-then-left-gt-MOST_LEFT c = search all

pub wait_for-requires : goal.wait_for-requires
wait_for-requires c = record { held = search all; left_bound = search all; a_bound = search all; sets_size_in_bounds = search all; room_size_in_bounds = search all }

pub shape_of-sets : goal.shape_of-sets
shape_of-sets c = search all

pub shape_of-room : goal.shape_of-room
shape_of-room c = search all

pub returns : goal.returns
returns c = search (step_over, step_waits, old_inside, sets_still, room_still, action_few)
