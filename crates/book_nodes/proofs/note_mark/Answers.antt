use Rattle.book_nodes.proofs.Area.{mark_known, mark_noted}
use borrow.Author.Rules.{rules}
use Rattle.book_nodes.proofs.note_mark.Goals as goal

pub returns-then-value-marks : goal.returns-then-value-marks
returns-then-value-marks c = search (rules, mark_known, mark_noted)

pub returns : goal.returns
returns c = search (rules, mark_known, mark_noted)
