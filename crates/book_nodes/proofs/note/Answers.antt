use Rattle.book_nodes.proofs.Area.{least_noted}
use borrow.Author.Rules.{rules}
use Rattle.book_nodes.proofs.note.Goals as goal

pub returns : goal.returns
returns c = search (rules, least_noted)
