-- `file_table::step_action` meets its contract.
use borrow.Author.Rules.{rules}
use Rattle.area_bytes.proofs.Numbers.{cast_byte}
use Rattle.file_table.proofs.Places.{action_there}
use Rattle.file_table.proofs.Ways.{step_action_read}
use Rattle.file_table.proofs.step_action.Goals as goal

ruleset all = (rules, cast_byte, action_there, step_action_read)

pub step_place-p-requires : goal.step_place-p-requires
step_place-p-requires c = search all

pub bounds-bytes-p : goal.bounds-bytes-p
bounds-bytes-p c = search all

pub overflow_cast-result : goal.overflow_cast-result
overflow_cast-result c = search all

pub returns : goal.returns
returns c = search all
