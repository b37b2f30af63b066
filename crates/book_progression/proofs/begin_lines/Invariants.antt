-- `book_progression::begin_lines` meets its contract, by the laws of Lines and BookHeld.
use Rattle.book_progression.proofs.Lines.{LinesBeginning}
use Rattle.book_progression.proofs.begin_lines.Given as goal

abbrev pub invariant-loop-at : goal.invariant-loop-at
invariant-loop-at l = LinesBeginning l.book l.lines l.initial.cells l.cells l.at
