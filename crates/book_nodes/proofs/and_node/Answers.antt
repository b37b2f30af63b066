use Rattle.book_nodes.proofs.Area.{and_untimed, and_timed}
use borrow.Author.Rules.{rules}
use Rattle.book_nodes.proofs.and_node.Goals as goal

pub returns-then-timed-eq0 : goal.returns-then-timed-eq0
returns-then-timed-eq0 c = search (rules, and_untimed, and_timed)

pub returns : goal.returns
returns c = search (rules, and_untimed, and_timed)
