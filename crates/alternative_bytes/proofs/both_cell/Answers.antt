-- `alternative_bytes::both_cell` meets its contract, by the laws of Ways.
use borrow.Author.Rules.{rules}
use Rattle.book_progression.proofs.Cells.{cell_low}
use Rattle.alternative_bytes.proofs.Ways.{both_first, both_merged}
use Rattle.alternative_bytes.proofs.both_cell.Goals as goal

pub returns-in_default : goal.returns-in_default
returns-in_default c = both_first _ _ _ _ c.in_default.ensures

pub merged-requires-clause-r_bound : goal.merged-requires-clause-r_bound
merged-requires-clause-r_bound c = cell_low _ _ c.in-Some.ensures (search rules)

pub returns : goal.returns
returns c = rw c.cell.ensures (both_merged _ _ _ _ _ _ c.in-Some.ensures c.merged.ensures)
