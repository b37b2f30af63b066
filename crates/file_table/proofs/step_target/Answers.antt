-- `file_table::step_target` meets its contract.
use borrow.Author.Rules.{rules}
use Rattle.file_table.proofs.Places.{target_there, target_fits}
use Rattle.file_table.proofs.Ways.{step_target_read}
use Rattle.file_table.proofs.step_target.Goals as goal

ruleset all = (rules, target_there, target_fits, step_target_read)

pub step_place-requires : goal.step_place-requires
step_place-requires c = search all

pub overflow_add-step_place : goal.overflow_add-step_place
overflow_add-step_place c = search all

pub two_bytes-requires : goal.two_bytes-requires
two_bytes-requires c = search all

pub returns : goal.returns
returns c = search all
