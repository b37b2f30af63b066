-- `file_tower::fields::length_of` meets its contract.
use borrow.Author.Rules.{rules}
use Rattle.file_tower.proofs.Places.{length_there, length_fits, length_read}
use Rattle.file_tower.proofs.fields.length_of.Goals as goal

ruleset all = (rules, length_there, length_fits, length_read)

pub layout_of-layout-requires : goal.layout_of-layout-requires
layout_of-layout-requires c = search all

pub overflow_mul-a : goal.overflow_mul-a
overflow_mul-a c = search all

pub overflow_add-layout : goal.overflow_add-layout
overflow_add-layout c = search all

pub byte-requires : goal.byte-requires
byte-requires c = search all

pub returns : goal.returns
returns c = search all
