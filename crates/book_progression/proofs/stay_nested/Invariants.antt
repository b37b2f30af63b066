-- `book_progression::stay_nested` meets its contract, by the laws of Nesting.
use Rattle.book_progression.proofs.Nesting.{Nesting}
use Rattle.book_progression.proofs.stay_nested.Given as goal

abbrev pub invariant-loop-d : goal.invariant-loop-d
invariant-loop-d l = Nesting l.book l.d l.initial.node l.initial.left l.initial.cells l.node l.left l.cells

abbrev pub decreases-loop-d : goal.decreases-loop-d
decreases-loop-d l = l.node
