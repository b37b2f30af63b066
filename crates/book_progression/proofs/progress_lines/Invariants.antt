-- `book_progression::progress_lines` meets its contract, by the laws of Lines and BookHeld.
use Rattle.book_progression.proofs.Lines.{LinesGoing}
use Rattle.book_progression.proofs.progress_lines.Given as goal

abbrev pub invariant-loop-i : goal.invariant-loop-i
invariant-loop-i l = LinesGoing l.book l.lines l.mask l.d l.initial.cells l.cells l.i
