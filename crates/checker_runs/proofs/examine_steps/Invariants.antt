-- From the pairs before this one no step is broken.
use Prim.Native.Nat.{◌≤◌}
use Rattle.logic.specs.Tower.{tower_of}
use Rattle.checker_runs.specs.Breaks.{NoBreak}
use Rattle.checker_runs.proofs.examine_steps.Given as goal

abbrev pub invariant-loop-i : goal.invariant-loop-i
invariant-loop-i l = (l.i ≤ l.n) × NoBreak l.graph l.i (tower_of l.tower).actions
