use Rattle.book_nodes.proofs.Area.{usual_read}
use borrow.Author.Rules.{rules}
use Rattle.book_nodes.proofs.usual.Goals as goal

pub returns : goal.returns
returns c = search (rules, usual_read)
