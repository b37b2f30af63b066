-- `book_progression::empty` meets its contract, by the laws of Stepping.
use Rattle.book_progression.proofs.Stepping.{emptied}
use borrow.Author.Rules.{rules}
use Rattle.book_progression.proofs.empty.Goals as goal

pub returns : goal.returns
returns c = search (rules, emptied)
