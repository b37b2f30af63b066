-- `file_tower::fields::states_offset` meets its contract.
use borrow.Author.Rules.{rules}
use Rattle.file_tower.proofs.Places.{second_offset_there, second_offset_fits, second_offset_read}
use Rattle.file_tower.proofs.fields.states_offset.Goals as goal

ruleset all = (rules, second_offset_there, second_offset_fits, second_offset_read)

pub layout_of-layout-requires : goal.layout_of-layout-requires
layout_of-layout-requires c = search all

pub overflow_add-layout : goal.overflow_add-layout
overflow_add-layout c = search all

pub two_bytes-requires : goal.two_bytes-requires
two_bytes-requires c = search all

pub returns : goal.returns
returns c = search all
