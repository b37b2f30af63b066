-- `book_progression::pending` meets its contract.
use borrow.Author.Rules.{rules}
use mathlib.Core.Path.{sym, refl}
use Rattle.book_progression.specs.PendingBytes.{cell_of}
use Rattle.book_progression.proofs.Cells.{cell_there}
use Rattle.book_progression.proofs.pending.Goals as goal

pub returns-in-0 : goal.returns-in-0
unfolding cell_of
returns-in-0 c = rw c.in-0.is refl

pub returns-in_default : goal.returns-in_default
returns-in_default c = sym (cell_there _ (search rules))
