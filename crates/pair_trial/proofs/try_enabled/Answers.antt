-- `pair_trial::try_enabled` meets its contract.
use borrow.Author.Rules.{rules}
use Rattle.pair_trial.proofs.Trials.{enabled_state, enabled_few, trial_step, try_shared, try_stepped}
use Rattle.pair_trial.proofs.try_enabled.Goals as goal

ruleset all = (rules, enabled_state, enabled_few, trial_step, try_shared, try_stepped)

pub tower_state-z-requires : goal.tower_state-z-requires
tower_state-z-requires c = record { files = search all; x_bound = search all }

pub tried_before-requires : goal.tried_before-requires
tried_before-requires c = record { files = search all; x_bound = search all; z_value = search all; a_bound = search all }

pub share-requires : goal.share-requires
share-requires c = record { b_lt_a = search all; a_bound = search all; room_size_in_bounds = search all }

pub shape_of-room-in-Some : goal.shape_of-room-in-Some
shape_of-room-in-Some c = search all

pub returns-in-Some : goal.returns-in-Some
returns-in-Some c = search all

pub try_step-requires : goal.try_step-requires
try_step-requires c = record { step_trial = search all; sets_size_in_bounds = search all; room_size_in_bounds = search all }

pub shape_of-sets : goal.shape_of-sets
shape_of-sets c = search all

pub shape_of-room : goal.shape_of-room
shape_of-room c = search all

pub returns : goal.returns
returns c = search all
