-- `book_alternatives::progressed` meets its contract, by the laws of Joining.
use Rattle.book_alternatives.proofs.Joining.{Joining}
use Rattle.book_alternatives.proofs.progressed.Given as goal

abbrev pub invariant-loop-i : goal.invariant-loop-i
invariant-loop-i l = Joining l.book l.n l.mask l.d l.old l.from l.count l.initial.sets l.initial.room l.left l.i l.sets l.room
