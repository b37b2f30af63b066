-- `book_alternatives::put_in` meets its contract, by the laws of Taking.
use Rattle.book_alternatives.proofs.Taking.{put_in}
use Rattle.book_alternatives.proofs.put_in.Goals as goal

pub returns : goal.returns
returns c = rw c.cell.ensures (put_in _ _ _ _ _ _ c.merged-left.ensures)
