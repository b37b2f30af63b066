-- `maker_removal::take_one` meets its contract.
use Rattle.maker_removal.proofs.Flags.{set_kept}
use Rattle.maker_removal.proofs.Turns.{take_there, take_flag, take_ready, take_removing, take_worked}
use borrow.Author.Rules.{rules}
use Rattle.maker_removal.proofs.take_one.Goals as goal

ruleset all = (rules, set_kept, take_there, take_flag, take_ready, take_removing, take_worked)

pub overflow_sub-height : goal.overflow_sub-height
overflow_sub-height c = search all

pub overflow_mul-height : goal.overflow_mul-height
overflow_mul-height c = search all

pub overflow_add-height : goal.overflow_add-height
overflow_add-height c = search all

pub two_bytes-j-requires : goal.two_bytes-j-requires
two_bytes-j-requires c = search all

pub bounds-area-j : goal.bounds-area-j
bounds-area-j c = search all

pub overflow_sub-height-2 : goal.overflow_sub-height-2
overflow_sub-height-2 c = search all

pub visit_predecessors-requires : goal.visit_predecessors-requires
visit_predecessors-requires c = record { removal_input = search take_ready; j_lt_n = search take_there; removing = search take_removing }

pub shape_of-area : goal.shape_of-area
shape_of-area c = search all

pub returns : goal.returns
returns c = search all
