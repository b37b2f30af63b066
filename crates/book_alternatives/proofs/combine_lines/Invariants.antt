-- `book_alternatives::combine_lines` meets its contract, by the laws of Combining.
use Rattle.book_alternatives.proofs.Combining.{LinesGoing}
use Rattle.book_alternatives.proofs.combine_lines.Given as goal

abbrev pub invariant-loop-i : goal.invariant-loop-i
invariant-loop-i l = LinesGoing l.book l.n l.mask l.d l.count l.initial.sets l.initial.room l.lines l.left l.i l.sets l.room
