use Rattle.book_nodes.proofs.Area.{or_untimed, or_timed}
use borrow.Author.Rules.{rules}
use Rattle.book_nodes.proofs.or_node.Goals as goal

pub returns-then-timed-eq0 : goal.returns-then-timed-eq0
returns-then-timed-eq0 c = search (rules, or_untimed, or_timed)

pub returns : goal.returns
returns c = search (rules, or_untimed, or_timed)
