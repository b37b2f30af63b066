-- The node is kept at every position before this one.
use Rattle.why_lines.specs.Lines.{KeptBefore}
use Rattle.why_lines.proofs.first_failing.Given as goal

abbrev pub invariant-loop-i : goal.invariant-loop-i
invariant-loop-i l = KeptBefore l.kept l.k l.i
