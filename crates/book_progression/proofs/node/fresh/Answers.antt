-- `book_progression::node::fresh` meets its contract, by the laws of Nodes.
use borrow.Author.Rules.{rules}
use Rattle.book_progression.proofs.Nodes.{fresh_none, fresh_bound}
use Rattle.book_progression.proofs.node.fresh.Goals as goal

pub returns-then-code-lt-NO_MORE : goal.returns-then-code-lt-NO_MORE
returns-then-code-lt-NO_MORE c = search (rules, fresh_none)

pub returns : goal.returns
returns c = search (rules, fresh_bound)
