-- `answer_numbers::of_log` meets its contract.
use borrow.Author.Rules.{rules}
use Rattle.base.specs.Answers.{log_said}
use Rattle.answer_numbers.proofs.Laws.{shown_by}
use Rattle.answer_numbers.proofs.of_log.Goals as goal

pub enum_known-read : goal.enum_known-read
unfolding log_said
enum_known-read c = search rules

pub returns-in-Ok : goal.returns-in-Ok
unfolding log_said
returns-in-Ok c = search (shown_by log_said)

pub returns-in-Err : goal.returns-in-Err
unfolding log_said
returns-in-Err c = search (shown_by log_said)
