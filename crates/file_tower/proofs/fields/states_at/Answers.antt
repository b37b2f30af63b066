-- `file_tower::fields::states_at` meets its contract.
use borrow.Author.Rules.{rules}
use Rattle.file_tower.proofs.Places.{states_place, states_place_fits}
use Rattle.file_tower.proofs.fields.states_at.Goals as goal

ruleset all = (rules, states_place, states_place_fits)

pub layout_of-layout-requires : goal.layout_of-layout-requires
layout_of-layout-requires c = search all

pub actions_of-requires : goal.actions_of-requires
actions_of-requires c = search all

pub overflow_mul-result : goal.overflow_mul-result
overflow_mul-result c = search all

pub overflow_add-result : goal.overflow_add-result
overflow_add-result c = search all

pub returns : goal.returns
returns c = search all
