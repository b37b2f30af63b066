-- `maker_marks::mark_before` meets its contract.
-- The invariant: the pairs of the cells from the present one on are marked. The measure: the cell.
use Rattle.maker_marks.proofs.Ways.{MarkingBefore}
use Rattle.maker_marks.proofs.mark_before.Given as goal

abbrev pub invariant-loop-at : goal.invariant-loop-at
invariant-loop-at l = MarkingBefore l.n l.actions l.graph l.flags l.classes l.j l.initial.marks l.at l.marks

abbrev pub decreases-loop-at : goal.decreases-loop-at
decreases-loop-at l = l.at
