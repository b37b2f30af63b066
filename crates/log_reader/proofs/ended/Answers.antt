-- `log_reader::ended` meets its contract.
use borrow.Author.Rules.{rules}
use Rattle.log_reader.proofs.Ways.{not_of_form, all_fit, one_fails}
use Rattle.log_reader.proofs.ended.Goals as goal

ruleset all = (rules, not_of_form, all_fit, one_fails)

pub returns-then-followed-length : goal.returns-then-followed-length
returns-then-followed-length c = search all

pub returns-in-Ok : goal.returns-in-Ok
returns-in-Ok c = search all

pub returns-in-Err : goal.returns-in-Err
returns-in-Err c = search all
