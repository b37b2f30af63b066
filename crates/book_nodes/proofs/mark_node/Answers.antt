use Rattle.book_nodes.proofs.Area.{mark_stored}
use borrow.Author.Rules.{rules}
use Rattle.book_nodes.proofs.mark_node.Goals as goal

pub returns : goal.returns
returns c = search (rules, mark_stored)
