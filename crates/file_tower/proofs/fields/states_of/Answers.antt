-- `file_tower::fields::states_of` meets its contract.
use borrow.Author.Rules.{rules}
use Rattle.file_tower.proofs.Places.{width_least, width_most, states_there, states_read}
use Rattle.file_tower.proofs.fields.states_of.Goals as goal

ruleset all = (rules, width_least, width_most, states_there, states_read)

pub layout_of-layout-requires : goal.layout_of-layout-requires
layout_of-layout-requires c = search all

pub number-requires : goal.number-requires
number-requires c = search all

pub returns : goal.returns
returns c = search all
