-- `book_progression::compares` meets its contract.
use borrow.Author.Rules.{rules}
use Rattle.logic.specs.Book.{compares}
use Rattle.reading.specs.BookArea.{comparison_code}
use Rattle.book_progression.proofs.compares.Goals as goal

pub returns-in-7 : goal.returns-in-7
unfolding compares comparison_code
returns-in-7 c = search rules

pub returns-in-8 : goal.returns-in-8
unfolding compares comparison_code
returns-in-8 c = search rules

pub returns-in-9 : goal.returns-in-9
unfolding compares comparison_code
returns-in-9 c = search rules

pub returns-in_default : goal.returns-in_default
unfolding compares comparison_code
returns-in_default c = search rules
