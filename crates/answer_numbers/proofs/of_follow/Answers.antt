-- `answer_numbers::of_follow` meets its contract.
use borrow.Author.Rules.{rules}
use Rattle.base.specs.Answers.{follow_said}
use Rattle.answer_numbers.proofs.Laws.{shown_by}
use Rattle.answer_numbers.proofs.of_follow.Goals as goal

pub enum_known-followed : goal.enum_known-followed
unfolding follow_said
enum_known-followed c = search rules

pub value-requires : goal.value-requires
unfolding follow_said
value-requires c = search rules

pub refused-requires : goal.refused-requires
unfolding follow_said
refused-requires c = search rules

pub returns-in-Ok : goal.returns-in-Ok
unfolding follow_said
returns-in-Ok c = search (shown_by follow_said)

pub returns-in-Err : goal.returns-in-Err
unfolding follow_said
returns-in-Err c = search (shown_by follow_said)
