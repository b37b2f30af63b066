-- `file_tower::fields::state_size` meets its contract.
use borrow.Author.Rules.{rules}
use Rattle.file_tower.proofs.Places.{targets_size_fits, state_size_fits, size_of_state}
use Rattle.file_tower.proofs.fields.state_size.Goals as goal

ruleset all = (rules, targets_size_fits, state_size_fits, size_of_state)

pub layout_of-layout-requires : goal.layout_of-layout-requires
layout_of-layout-requires c = search all

pub actions_of-requires : goal.actions_of-requires
actions_of-requires c = search all

pub overflow_mul-result : goal.overflow_mul-result
overflow_mul-result c = search all

pub overflow_add-result : goal.overflow_add-result
overflow_add-result c = search all

pub returns : goal.returns
returns c = search all
