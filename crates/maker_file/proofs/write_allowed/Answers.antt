-- `maker_file::write_allowed` meets its contract.
use borrow.Author.Rules.{rules}
use Rattle.maker_file.proofs.Going.{row_pair_below}
use Rattle.maker_file.proofs.Ways.{target_marked, step_room, step_fits, wrote_one, wrote_none}
use Rattle.maker_file.proofs.write_allowed.Goals as goal

ruleset all = (rules, row_pair_below, target_marked, step_room, step_fits, wrote_one, wrote_none)

pub allowed-requires : goal.allowed-requires
allowed-requires c = search all

pub enum_known-j : goal.enum_known-j
enum_known-j c = search all

pub enum_told-1 : goal.enum_told-1
enum_told-1 c = search all

pub returns-in_default : goal.returns-in_default
returns-in_default c = search all

pub row_of-requires : goal.row_of-requires
row_of-requires c = search all

pub write_three_bytes-requires : goal.write_three_bytes-requires
write_three_bytes-requires c = search all

pub overflow_add-result : goal.overflow_add-result
overflow_add-result c = search all

pub shape_of-out : goal.shape_of-out
shape_of-out c = search all

pub returns : goal.returns
returns c = search all
