-- The point is one of the run, and fewer actions are left at each turn.
use Rattle.std.proofs.Common.{◌-◌}
use Rattle.program_run.specs.Walking.{OnRun}
use Rattle.why_not.proofs.print_steps.Given as goal

abbrev pub invariant-loop-point : goal.invariant-loop-point
invariant-loop-point g l = OnRun l.point l.tower l.run l.n l.point.position

abbrev pub decreases-loop-point : goal.decreases-loop-point
decreases-loop-point g l = l.n - l.point.position.0
