-- `log_course::follow_lines` meets its contract.
use Prim.Native.Nat.{◌-◌}
use lib.ListN.{length}
use Rattle.log_course.proofs.Ways.{LinesLeft}
use Rattle.log_course.proofs.follow_lines.Given as goal

abbrev pub invariant-loop-at : goal.invariant-loop-at
invariant-loop-at l = LinesLeft l.tower l.table l.log l.initial.known l.initial.line l.initial.so_far l.known l.at l.line l.so_far

abbrev pub decreases-loop-at : goal.decreases-loop-at
decreases-loop-at l = length l.log - l.at
