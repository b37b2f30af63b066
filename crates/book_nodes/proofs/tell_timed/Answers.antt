use Rattle.book_nodes.proofs.Area.{state_timed}
use borrow.Author.Rules.{rules}
use Rattle.book_nodes.proofs.tell_timed.Goals as goal

pub returns : goal.returns
returns c = search (rules, state_timed)
