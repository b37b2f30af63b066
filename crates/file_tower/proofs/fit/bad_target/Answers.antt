-- `file_tower::fit::bad_target` meets its contract.
use borrow.Author.Rules.{rules}
use Rattle.file_tower.proofs.Ways.{target_state, target_other}
use Rattle.file_tower.proofs.fit.bad_target.Goals as goal

ruleset all = (rules, target_state, target_other)

pub target_of-target-requires : goal.target_of-target-requires
target_of-target-requires c = search all

pub states_of-requires : goal.states_of-requires
states_of-requires c = search all

pub returns-then-target-states_of : goal.returns-then-target-states_of
returns-then-target-states_of c = search all

pub layout_of-layout-requires : goal.layout_of-layout-requires
layout_of-layout-requires c = search all

pub returns : goal.returns
returns c = search all
