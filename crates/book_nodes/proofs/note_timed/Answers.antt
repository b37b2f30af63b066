use Rattle.book_nodes.proofs.Area.{timed_not, timed_noted}
use borrow.Author.Rules.{rules}
use Rattle.book_nodes.proofs.note_timed.Goals as goal

pub returns-then-is_timed-eq0 : goal.returns-then-is_timed-eq0
returns-then-is_timed-eq0 c = search (rules, timed_not, timed_noted)

pub returns : goal.returns
returns c = search (rules, timed_not, timed_noted)
