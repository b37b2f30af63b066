-- `maker_marks::mark_with_firsts` meets its contract.
-- The invariant: the pairs below the counter are marked where their first is. The measure: how many are left.
use Prim.Native.Nat.{◌-◌}
use Rattle.maker_marks.proofs.Ways.{MarkingFirsts}
use Rattle.maker_marks.proofs.mark_with_firsts.Given as goal

abbrev pub invariant-loop-i : goal.invariant-loop-i
invariant-loop-i l = MarkingFirsts l.i l.flags l.classes l.initial.marks l.marks
