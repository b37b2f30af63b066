-- The loop keeps `StepsToPrint`, and fewer steps are left at each turn.
use Prim.Native.Nat.{◌-◌}
use Rattle.program_listing.proofs.Ways.{StepsToPrint}
use Rattle.program_listing.proofs.put_steps.Given as goal

abbrev pub invariant-loop-i : goal.invariant-loop-i
invariant-loop-i l = StepsToPrint l.table l.row l.initial.out l.at l.end l.out l.next l.i
