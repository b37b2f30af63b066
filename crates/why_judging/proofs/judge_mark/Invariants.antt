-- `judge_mark`: positions from the last back.
use Rattle.why_judging.proofs.Loops.{NodeJudging}
use Rattle.why_judging.proofs.judge_mark.Given as goal

abbrev pub invariant-loop-i : goal.invariant-loop-i
invariant-loop-i l =
    NodeJudging l.tower l.nodes l.run l.states l.marks l.n l.k l.initial.kept l.i l.kept
