use Rattle.book_nodes.proofs.Area.{timed_read}
use borrow.Author.Rules.{rules}
use Rattle.book_nodes.proofs.is_timed.Goals as goal

pub returns : goal.returns
returns c = search (rules, timed_read)
