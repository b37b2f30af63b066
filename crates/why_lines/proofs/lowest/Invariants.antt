-- The loop keeps what `Looking` says: the lines before this one are kept. Those that are left become fewer.
use Rattle.why_lines.proofs.Failing.{Looking}
use Rattle.why_lines.proofs.lowest.Given as goal

abbrev pub invariant-loop-l : goal.invariant-loop-l
invariant-loop-l l = Looking l.tower l.nodes l.run l.states l.n l.lines l.l
