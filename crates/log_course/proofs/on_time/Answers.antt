-- `log_course::on_time` meets its contract.
use borrow.Author.Rules.{rules}
use Rattle.log_course.proofs.Ways.{free_fits, due_fits}
use Rattle.log_course.proofs.on_time.Goals as goal

ruleset all = (rules, free_fits, due_fits)

pub enum_told-1 : goal.enum_told-1
enum_told-1 c = search all

pub enum_known-due : goal.enum_known-due
enum_known-due c = search all

pub returns-in-None : goal.returns-in-None
returns-in-None c = search all

pub returns-in-Some : goal.returns-in-Some
returns-in-Some c = search all
