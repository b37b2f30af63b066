-- `book_alternatives::alone` meets its contract, by the laws of OwnSets.
use Rattle.book_alternatives.proofs.OwnSets.{alone_set}
use Rattle.book_alternatives.proofs.alone.Goals as goal

pub returns : goal.returns
returns c = rw c.cell.ensures (alone_set _ _ _ _ _ _ c.clear.ensures c.requires.own_ready c.requires.part_lt_n)
