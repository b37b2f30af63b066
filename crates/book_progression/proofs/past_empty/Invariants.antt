-- The loop has passed over empty cells only.
use Rattle.book_progression.specs.Promises.{EmptyTo}
use Rattle.book_progression.proofs.past_empty.Given as goal

abbrev pub invariant-loop-i : goal.invariant-loop-i
invariant-loop-i l = EmptyTo l.area l.from l.count l.k l.i
