-- `book_alternatives::combine_none` meets its contract, by the laws of OwnSets.
use borrow.Author.Rules.{rules}
use Rattle.book_alternatives.proofs.OwnSets.{none_combined}
use Rattle.book_alternatives.proofs.combine_none.Goals as goal

pub returns : goal.returns
returns c = search (rules, none_combined)
