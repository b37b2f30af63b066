use Rattle.book_nodes.proofs.Area.{leaf_stored}
use borrow.Author.Rules.{rules}
use Rattle.book_nodes.proofs.leaf.Goals as goal

pub returns : goal.returns
returns c = search (rules, leaf_stored)
