use Rattle.book_nodes.proofs.Area.{last_read}
use borrow.Author.Rules.{rules}
use Rattle.book_nodes.proofs.last_node.Goals as goal

pub returns : goal.returns
returns c = search (rules, last_read)
