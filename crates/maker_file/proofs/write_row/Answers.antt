-- `maker_file::write_row` meets its contract.
use Rattle.maker_file.proofs.Ways.{behind_written}
use borrow.Author.Rules.{rules}
use Rattle.maker_file.proofs.write_row.Goals as goal

ruleset all = (rules, behind_written)

pub put_number-requires : goal.put_number-requires
put_number-requires c = search all

pub overflow_add-p : goal.overflow_add-p
overflow_add-p c = search all

pub write_three_bytes-requires : goal.write_three_bytes-requires
write_three_bytes-requires c = search all

pub shape_of-out : goal.shape_of-out
shape_of-out c = search all

pub returns : goal.returns
returns c = search all
