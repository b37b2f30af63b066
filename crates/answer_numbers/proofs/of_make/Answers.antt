-- `answer_numbers::of_make` meets its contract.
use borrow.Author.Rules.{rules}
use Rattle.base.specs.Answers.{make_said}
use Rattle.answer_numbers.proofs.Laws.{shown_by}
use Rattle.answer_numbers.proofs.of_make.Goals as goal

pub enum_known-made : goal.enum_known-made
unfolding make_said
enum_known-made c = search rules

pub value-requires : goal.value-requires
unfolding make_said
value-requires c = search rules

pub refused-requires : goal.refused-requires
unfolding make_said
refused-requires c = search rules

pub returns-in-Ok : goal.returns-in-Ok
unfolding make_said
returns-in-Ok c = search (shown_by make_said)

pub returns-in-Err : goal.returns-in-Err
unfolding make_said
returns-in-Err c = search (shown_by make_said)
