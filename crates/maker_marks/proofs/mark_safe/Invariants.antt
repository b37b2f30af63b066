-- `maker_marks::mark_safe` meets its contract.
-- The invariant: the pairs below the counter have the marks of their flags. The measure: how many are left.
use Prim.Native.Nat.{◌-◌}
use Rattle.maker_marks.proofs.Ways.{MarkingSafe}
use Rattle.maker_marks.proofs.mark_safe.Given as goal

abbrev pub invariant-loop-i : goal.invariant-loop-i
invariant-loop-i l = MarkingSafe l.flags l.initial.marks l.marks l.i
