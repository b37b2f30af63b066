use borrow.Author.Rules.{rules}
use Rattle.pair_trial.proofs.Trials.{all_listed, all_behind, trying_start, trying_next, tried_over, tried_all}
use Rattle.pair_trial.proofs.try_all.Goals as goal

ruleset all = (rules, all_listed, all_behind, trying_start, trying_next, tried_over, tried_all)

pub actions-actions-requires : goal.actions-actions-requires
actions-actions-requires c = search all

pub loop-a-init : goal.loop-a-init
loop-a-init c = search all

pub try_action-requires : goal.try_action-requires
try_action-requires c = record { trial = search all; a_bound = search all; sets_size_in_bounds = search all; room_size_in_bounds = search all }

pub shape_of-sets-then-try_action : goal.shape_of-sets-then-try_action
shape_of-sets-then-try_action c = search all

pub shape_of-room-then-try_action : goal.shape_of-room-then-try_action
shape_of-room-then-try_action c = search all

pub returns-then-try_action : goal.returns-then-try_action
returns-then-try_action c = search all

pub loop-a-preserved : goal.loop-a-preserved
loop-a-preserved c = search all

pub shape_of-sets : goal.shape_of-sets
shape_of-sets c = search all

pub shape_of-room : goal.shape_of-room
shape_of-room c = search all

pub returns : goal.returns
returns c = search all
