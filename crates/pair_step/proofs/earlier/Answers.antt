use borrow.Author.Rules.{rules}
use Rattle.pair_step.proofs.Entering.{action_room_below, earlier_found}
use Rattle.pair_step.proofs.earlier.Goals as goal

ruleset all = (rules, action_room_below)

pub step_length-d-requires : goal.step_length-d-requires
step_length-d-requires c = search all

pub loop-b-init : goal.loop-b-init
loop-b-init c = search all

pub step_length-e-requires : goal.step_length-e-requires
step_length-e-requires c = search all

pub enabled-requires : goal.enabled-requires
enabled-requires c = search all

pub returns-then-enabled : goal.returns-then-enabled
returns-then-enabled c = search (rules, earlier_found)

pub loop-b-preserved : goal.loop-b-preserved
loop-b-preserved c = search all

pub returns : goal.returns
returns c = search all
