-- `book_progression::put` meets its contract, by the laws of Putting.
use Rattle.book_progression.proofs.Putting.{put_stored}
use Rattle.book_progression.proofs.put.Goals as goal

pub returns : goal.returns
returns c = rw c.cell.ensures (put_stored _ _ _ _ _ c.merged.ensures)
