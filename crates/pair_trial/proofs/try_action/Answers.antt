-- `pair_trial::try_action` meets its contract.
use borrow.Author.Rules.{rules}
use borrow.Author.Tests.{not-true, not-false}
use Rattle.pair_trial.proofs.Trials.{trial_state, trial_action, try_not}
use Rattle.pair_trial.proofs.try_action.Goals as goal

ruleset all = (rules, not-true, not-false, trial_state, trial_action, try_not)

pub number-x-requires : goal.number-x-requires
number-x-requires c = record { i_bound = search all; entries_size_in_bounds = search all }

pub is_enabled-requires : goal.is_enabled-requires
is_enabled-requires c = record { files = search all; x_bound = search all; a_bound = search all }

pub returns-then-not-is_enabled : goal.returns-then-not-is_enabled
returns-then-not-is_enabled c = search all

pub try_enabled-requires : goal.try_enabled-requires
try_enabled-requires c = record { action_trial = search all; sets_size_in_bounds = search all; room_size_in_bounds = search all }

pub shape_of-sets : goal.shape_of-sets
shape_of-sets c = search all

pub shape_of-room : goal.shape_of-room
shape_of-room c = search all

pub returns : goal.returns
returns c = search all
