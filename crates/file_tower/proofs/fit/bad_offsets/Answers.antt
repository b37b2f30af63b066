-- `file_tower::fit::bad_offsets` meets its contract.
use borrow.Author.Rules.{rules}
use Rattle.file_tower.proofs.Ways.{offset_actions, offset_states}
use Rattle.file_tower.proofs.fit.bad_offsets.Goals as goal

ruleset all = (rules, offset_actions, offset_states)

pub layout_of-layout-requires : goal.layout_of-layout-requires
layout_of-layout-requires c = search all

pub actions_offset-requires : goal.actions_offset-requires
actions_offset-requires c = search all

pub returns-then-actions_offset-layout : goal.returns-then-actions_offset-layout
returns-then-actions_offset-layout c = search all

pub states_offset-requires : goal.states_offset-requires
states_offset-requires c = search all

pub states_at-requires : goal.states_at-requires
states_at-requires c = search all

pub returns : goal.returns
returns c = search all
