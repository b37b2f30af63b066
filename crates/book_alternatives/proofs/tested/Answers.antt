-- `book_alternatives::tested` meets its contract, by the laws of OwnSets.
use borrow.Author.Rules.{rules}
use Rattle.book_alternatives.proofs.OwnSets.{tested_fails, tested_passes}
use Rattle.book_alternatives.proofs.tested.Goals as goal

pub returns-then-not-test : goal.returns-then-not-test
returns-then-not-test c = search (rules, tested_fails)

pub returns : goal.returns
returns c = search (rules, tested_passes)
