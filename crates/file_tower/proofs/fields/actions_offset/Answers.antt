-- `file_tower::fields::actions_offset` meets its contract.
use borrow.Author.Rules.{rules}
use Rattle.file_tower.proofs.Places.{first_offset_there, first_offset_read}
use Rattle.file_tower.proofs.fields.actions_offset.Goals as goal

ruleset all = (rules, first_offset_there, first_offset_read)

pub layout_of-layout-requires : goal.layout_of-layout-requires
layout_of-layout-requires c = search all

pub two_bytes-requires : goal.two_bytes-requires
two_bytes-requires c = search all

pub returns : goal.returns
returns c = search all
