-- `maker_removal::visit` meets its contract.
use borrow.Author.Tests.{not-true, not-false}
use Rattle.maker_removal.proofs.Turns.{ready_judged, ready_room, visit_removed, visit_fine, visit_pushed}
use borrow.Author.Rules.{rules}
use Rattle.maker_removal.proofs.visit.Goals as goal

ruleset all = (rules, not-true, not-false, ready_judged, ready_room, visit_removed, visit_fine, visit_pushed)

pub is_safe-requires : goal.is_safe-requires
is_safe-requires c = search all

pub shape_of-area-then-not-is_safe : goal.shape_of-area-then-not-is_safe
shape_of-area-then-not-is_safe c = search all

pub returns-then-not-is_safe : goal.returns-then-not-is_safe
returns-then-not-is_safe c = search all

pub is_fine-requires : goal.is_fine-requires
is_fine-requires c = search all

pub shape_of-area-then-is_fine : goal.shape_of-area-then-is_fine
shape_of-area-then-is_fine c = search all

pub returns-then-is_fine : goal.returns-then-is_fine
returns-then-is_fine c = search all

pub push-requires : goal.push-requires
push-requires c = search all

pub overflow_add-result : goal.overflow_add-result
overflow_add-result c = search all

pub shape_of-area : goal.shape_of-area
shape_of-area c = search all

pub returns : goal.returns
returns c = search all
