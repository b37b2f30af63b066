-- `book_progression::progress_cell` meets its contract, by the laws of Stepping.
use borrow.Author.Rules.{rules}
use Rattle.book_progression.proofs.Stepping.{cell_none, cell_progresses, cell_ready}
use Rattle.book_progression.proofs.progress_cell.Goals as goal

pub returns-in_default : goal.returns-in_default
returns-in_default c = cell_none _ _ _ _ _ _ c.in_default.ensures

pub progress-requires : goal.progress-requires
progress-requires c = cell_ready _ _ _ _ _ c.in-Some.ensures (search rules) (search rules) (search rules)

pub returns : goal.returns
returns c = cell_progresses _ _ _ _ _ _ _ _ _ c.in-Some.ensures c.progress.ensures
