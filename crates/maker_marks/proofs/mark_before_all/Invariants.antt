-- `maker_marks::mark_before_all` meets its contract.
-- The invariant: the entries below the counter are done. The measure: how many are left.
use Prim.Native.Nat.{◌-◌}
use mathlib.Core.Path.{◌≡◌}
use lib.ListN.{length}
use Rattle.maker_marks.specs.Marks.{MarkedBeforeAll}
use Rattle.maker_marks.proofs.mark_before_all.Given as goal

abbrev pub invariant-loop-p : goal.invariant-loop-p
invariant-loop-p l = (MarkedBeforeAll l.n l.actions l.graph l.flags l.classes l.initial.marks l.p l.marks) × (length l.marks ≡ length l.initial.marks)
