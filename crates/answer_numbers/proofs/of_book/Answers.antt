-- `answer_numbers::of_book` meets its contract.
use borrow.Author.Rules.{rules}
use Rattle.base.specs.Answers.{book_said}
use Rattle.answer_numbers.proofs.Laws.{shown_by}
use Rattle.answer_numbers.proofs.of_book.Goals as goal

pub enum_known-book : goal.enum_known-book
unfolding book_said
enum_known-book c = search rules

pub two_values-requires : goal.two_values-requires
unfolding book_said
two_values-requires c = search rules

pub refused-requires : goal.refused-requires
unfolding book_said
refused-requires c = search rules

pub returns-in-Ok : goal.returns-in-Ok
unfolding book_said
returns-in-Ok c = search (shown_by book_said)

pub returns-in-Err : goal.returns-in-Err
unfolding book_said
returns-in-Err c = search (shown_by book_said)
