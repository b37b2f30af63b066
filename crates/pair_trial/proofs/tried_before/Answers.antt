use borrow.Author.Rules.{rules}
use Rattle.pair_trial.proofs.Walking.{action_below}
use Rattle.pair_trial.proofs.Walking.{tower_state_inside}
use Rattle.pair_trial.proofs.Trials.{action_before, action_before_tower, before_found}
use Rattle.pair_trial.proofs.tried_before.Goals as goal

ruleset all = (rules, action_below, tower_state_inside, action_before, action_before_tower)

pub step_length-d-requires : goal.step_length-d-requires
step_length-d-requires c = record { fit_tower = search all; x_bound = search all; a_bound = search all }

pub loop-b-init : goal.loop-b-init
loop-b-init c = search all

pub step_length-e-requires : goal.step_length-e-requires
step_length-e-requires c = record { fit_tower = search all; x_bound = search all; a_bound = search all }

pub is_enabled-requires : goal.is_enabled-requires
is_enabled-requires c = record { files = search all; x_bound = search all; a_bound = search all }

pub returns-then-is_enabled : goal.returns-then-is_enabled
returns-then-is_enabled c = search (rules, before_found)

pub loop-b-preserved : goal.loop-b-preserved
loop-b-preserved c = search all

pub returns : goal.returns
returns c = search all
