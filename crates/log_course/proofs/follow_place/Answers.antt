-- `log_course::follow_place` meets its contract.
use borrow.Author.Rules.{rules}
use borrow.Author.Tests.{not-true, not-false}
use Rattle.log_course.proofs.Ways.{has_header, has_tower, state_inside, action_inside, sum_fits, not_allowed, not_on_time, line_fits}
use Rattle.log_course.proofs.follow_place.Goals as goal

ruleset all = (rules, not-true, not-false, has_header, has_tower, state_inside, action_inside, sum_fits, not_allowed, not_on_time, line_fits)

pub enum_known-target : goal.enum_known-target
enum_known-target c = search all

pub enum_told-1 : goal.enum_told-1
enum_told-1 c = search all

pub returns-in_default : goal.returns-in_default
returns-in_default c = search all

pub on_time-requires : goal.on_time-requires
on_time-requires c = search all

pub returns-then-not-on_time : goal.returns-then-not-on_time
returns-then-not-on_time c = search all

pub row_state-requires : goal.row_state-requires
row_state-requires c = search all

pub step_length-length-requires : goal.step_length-length-requires
step_length-length-requires c = search all

pub overflow_add-result : goal.overflow_add-result
overflow_add-result c = search all

pub returns : goal.returns
returns c = search all
