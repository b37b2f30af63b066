-- `file_tower::fields::target_of` meets its contract.
use borrow.Author.Rules.{rules}
use Rattle.file_tower.proofs.Places.{width_least, width_most, targets_fit, target_place_fits, target_fits, target_there, target_read_at}
use Rattle.file_tower.proofs.fields.target_of.Goals as goal

ruleset all = (rules, width_least, width_most, targets_fit, target_place_fits, target_fits, target_there, target_read_at)

pub layout_of-layout-requires : goal.layout_of-layout-requires
layout_of-layout-requires c = search all

pub state_at-targets-requires : goal.state_at-targets-requires
state_at-targets-requires c = search all

pub overflow_add-targets : goal.overflow_add-targets
overflow_add-targets c = search all

pub overflow_mul-layout : goal.overflow_mul-layout
overflow_mul-layout c = search all

pub overflow_add-targets-2 : goal.overflow_add-targets-2
overflow_add-targets-2 c = search all

pub number-requires : goal.number-requires
number-requires c = search all

pub returns : goal.returns
returns c = search all
