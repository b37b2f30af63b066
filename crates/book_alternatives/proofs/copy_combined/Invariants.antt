-- `book_alternatives::copy_combined` meets its contract, by the laws of Copying.
use Rattle.book_alternatives.proofs.Copying.{Copying}
use Rattle.book_alternatives.proofs.copy_combined.Given as goal

abbrev pub invariant-loop-k : goal.invariant-loop-k
invariant-loop-k l = Copying l.initial.sets l.size l.k l.sets
