-- `book_progression::begin` meets its contract, by the laws of Stepping.
use Rattle.book_progression.proofs.Stepping.{begun_whole}
use borrow.Author.Rules.{rules}
use Rattle.book_progression.proofs.begin.Goals as goal

pub returns : goal.returns
returns c = search (rules, begun_whole)
