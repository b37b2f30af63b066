-- `book_progression::marked` meets its contract.
use Rattle.logic.specs.Tower.{bit}
use borrow.Author.Rules.{rules}
use Rattle.book_progression.proofs.marked.Goals as goal

pub returns : goal.returns
unfolding bit
returns c = search rules
