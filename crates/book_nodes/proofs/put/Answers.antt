use Rattle.book_nodes.proofs.Area.{put_full, put_room}
use borrow.Author.Rules.{rules}
use Rattle.book_nodes.proofs.put.Goals as goal

pub returns-then-n-ge-MOST_NODES : goal.returns-then-n-ge-MOST_NODES
returns-then-n-ge-MOST_NODES c = search (rules, put_full, put_room)

pub returns : goal.returns
returns c = search (rules, put_full, put_room)
