-- `maker_removal::remove` meets its contract.
use Rattle.maker_removal.proofs.Turns.{graph_read, begun}
use borrow.Author.Rules.{rules}
use Rattle.maker_removal.proofs.remove.Goals as goal

ruleset all = (rules, graph_read, begun)

pub actions-requires : goal.actions-requires
actions-requires c = search all

pub list_all-requires : goal.list_all-requires
list_all-requires c = search all

pub begin-requires : goal.begin-requires
begin-requires c = search all

pub visit_all-height-requires : goal.visit_all-height-requires
visit_all-height-requires c = record { removal_input = record { fit = search rules; held = search rules; room = search rules }; removing = search begun }

pub work_off-requires : goal.work_off-requires
work_off-requires c = record { removal_input = record { fit = search rules; held = search rules; room = search rules }; removing = search rules }

pub shape_of-area : goal.shape_of-area
shape_of-area c = search all

pub returns : goal.returns
returns c = search all
