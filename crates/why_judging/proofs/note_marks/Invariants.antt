-- `note_marks`: positions from the first on.
use Prim.Native.Nat.{◌-◌}
use Rattle.why_judging.proofs.Marks.{Marking}
use Rattle.why_judging.proofs.note_marks.Given as goal

abbrev pub invariant-loop-i : goal.invariant-loop-i
invariant-loop-i l = Marking l.tower l.run l.states l.n l.initial.marks l.i l.marks
