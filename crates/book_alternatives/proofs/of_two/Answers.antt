-- `book_alternatives::of_two` meets its contract, by the laws of Taking.
use borrow.Author.Rules.{rules}
use Rattle.book_alternatives.proofs.Taking.{two_and, two_or}
use Rattle.book_alternatives.proofs.of_two.Goals as goal

pub returns-then-code-eq-AND : goal.returns-then-code-eq-AND
returns-then-code-eq-AND c = search (rules, two_and)

pub returns : goal.returns
returns c = search (rules, two_or)
