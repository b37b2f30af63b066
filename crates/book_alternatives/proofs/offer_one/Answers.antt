-- `book_alternatives::offer_one` meets its contract, by the laws of InPlace.
use borrow.Author.Rules.{rules}
use Rattle.book_alternatives.proofs.InPlace.{one_on, one_broken}
use Rattle.book_alternatives.proofs.offer_one.Goals as goal

pub returns-then-progress : goal.returns-then-progress
returns-then-progress c = search (rules, one_on)

pub returns : goal.returns
returns c = search (rules, one_broken)
