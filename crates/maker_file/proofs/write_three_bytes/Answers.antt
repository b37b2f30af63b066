-- `maker_file::write_three_bytes` meets its contract.
use Rattle.maker_file.proofs.Ways.{behind_written}
use borrow.Author.Rules.{rules}
use Rattle.maker_file.proofs.write_three_bytes.Goals as goal

ruleset all = (rules, behind_written)

pub put_number-requires : goal.put_number-requires
put_number-requires c = search all

pub overflow_add-p : goal.overflow_add-p
overflow_add-p c = search all

pub put_two_bytes-requires : goal.put_two_bytes-requires
put_two_bytes-requires c = search all

pub shape_of-out : goal.shape_of-out
shape_of-out c = search all

pub returns : goal.returns
returns c = search all
