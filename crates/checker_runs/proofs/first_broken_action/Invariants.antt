-- Of the actions before this one none makes a broken step.
use Prim.Native.Nat.{◌≤◌}
use Rattle.checker_runs.specs.Breaks.{NoneBefore}
use Rattle.checker_runs.proofs.first_broken_action.Given as goal

abbrev pub invariant-loop-a : goal.invariant-loop-a
invariant-loop-a l = (l.a ≤ l.actions) × NoneBefore l.a l.graph l.i
