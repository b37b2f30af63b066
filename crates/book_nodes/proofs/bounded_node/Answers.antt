use Rattle.book_nodes.proofs.Area.{bounded_stored}
use Rattle.book_nodes.proofs.bounded_node.Goals as goal

pub returns : goal.returns
returns c = bounded_stored _ _ _ _ _ _ _ _
    c.last_node-second.ensures
    c.note_number.ensures
    c.put.ensures
    c.tell_timed.ensures
