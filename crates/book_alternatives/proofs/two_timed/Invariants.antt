-- `book_alternatives::two_timed` meets its contract.
-- The invariant: no node that was passed is an or with two timed sides. The measure: how many are left.
use Rattle.book_alternatives.proofs.Widths.{NoneSided}
use Rattle.book_alternatives.proofs.two_timed.Given as goal

abbrev pub invariant-loop-k : goal.invariant-loop-k
invariant-loop-k l = NoneSided l.book l.k
