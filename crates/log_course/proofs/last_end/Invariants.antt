-- `log_course::last_end` meets its contract.
use Prim.Native.Nat.{◌≤◌}
use lib.ListN.{length}
use Rattle.log_course.specs.Following.{NoEnd}
use Rattle.log_course.proofs.last_end.Given as goal

abbrev pub invariant-loop-at : goal.invariant-loop-at
invariant-loop-at l = (l.at ≤ length l.log) × NoEnd l.at l.log
