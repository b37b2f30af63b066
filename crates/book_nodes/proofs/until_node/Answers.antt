use Rattle.book_nodes.proofs.Area.{until_stored}
use borrow.Author.Rules.{rules}
use Rattle.book_nodes.proofs.until_node.Goals as goal

pub returns : goal.returns
returns c = search (rules, until_stored)
