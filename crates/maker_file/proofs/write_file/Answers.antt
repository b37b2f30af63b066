-- `maker_file::write_file` meets its contract.
use borrow.Author.Rules.{rules}
use Rattle.maker_file.proofs.Filling.{header_room, file_written}
use Rattle.maker_file.proofs.write_file.Goals as goal

ruleset all = (rules, header_room, file_written)

pub write_header-requires : goal.write_header-requires
write_header-requires c = search all

pub write_rows-requires : goal.write_rows-requires
write_rows-requires c = search all

pub row_at-requires : goal.row_at-requires
row_at-requires c = search all

pub write_steps-requires : goal.write_steps-requires
write_steps-requires c = search all

pub shape_of-out : goal.shape_of-out
shape_of-out c = search all

pub returns : goal.returns
returns c = search all
