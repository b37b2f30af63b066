use Rattle.book_nodes.proofs.Area.{opens_none, opens_some}
use borrow.Author.Rules.{rules}
use Rattle.book_nodes.proofs.open.Goals as goal

pub returns-then-room-eq0 : goal.returns-then-room-eq0
returns-then-room-eq0 c = search (rules, opens_none, opens_some)

pub returns : goal.returns
returns c = search (rules, opens_none, opens_some)
