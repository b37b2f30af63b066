-- `answer_numbers::of_check` meets its contract.
use borrow.Author.Rules.{rules}
use Rattle.base.specs.Answers.{verdict_said}
use Rattle.answer_numbers.proofs.Laws.{shown_by}
use Rattle.answer_numbers.proofs.of_check.Goals as goal

pub enum_told-1 : goal.enum_told-1
unfolding verdict_said
enum_told-1 c = search rules

pub yes-requires : goal.yes-requires
unfolding verdict_said
yes-requires c = search rules

pub enum_known-verdict : goal.enum_known-verdict
unfolding verdict_said
enum_known-verdict c = search rules

pub returns-in-Ok : goal.returns-in-Ok
unfolding verdict_said
returns-in-Ok c = search (shown_by verdict_said)

pub returns-in-Err : goal.returns-in-Err
unfolding verdict_said
returns-in-Err c = search (shown_by verdict_said)
