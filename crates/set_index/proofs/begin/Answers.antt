-- `set_index::begin` meets its contract.
use borrow.Author.Rules.{rules}
use Rattle.set_index.proofs.Laws.{indexed_cleared}
use Rattle.set_index.proofs.Ways.{none_before}
use Rattle.set_index.proofs.begin.Goals as goal

pub add-requires-clause-indexed : goal.add-requires-clause-indexed
add-requires-clause-indexed c = search (indexed_cleared, c.clear.ensures)

pub add-requires-clause-new : goal.add-requires-clause-new
add-requires-clause-new c = search (rules, none_before)
