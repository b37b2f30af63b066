-- `answer_numbers::of_why` meets its contract.
use borrow.Author.Rules.{rules}
use Rattle.base.specs.Answers.{why_said}
use Rattle.answer_numbers.proofs.Laws.{shown_by}
use Rattle.answer_numbers.proofs.of_why.Goals as goal

pub enum_known-shows : goal.enum_known-shows
unfolding why_said
enum_known-shows c = search rules

pub returns-in-Ok : goal.returns-in-Ok
unfolding why_said
returns-in-Ok c = search (shown_by why_said)

pub returns-in-Err : goal.returns-in-Err
unfolding why_said
returns-in-Err c = search (shown_by why_said)
