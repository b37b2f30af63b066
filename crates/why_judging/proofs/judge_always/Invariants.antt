-- `judge_always`: positions from the last back, with how far ahead the part next fails.
use Rattle.why_judging.specs.Judgement.{NodeWaits}
use Rattle.why_judging.proofs.Loops.{NodeJudging}
use Rattle.why_judging.proofs.judge_always.Given as goal

abbrev pub invariant-loop-i : goal.invariant-loop-i
invariant-loop-i l =
    NodeJudging l.tower l.nodes l.run l.states l.marks l.n l.k l.initial.kept l.i l.kept × NodeWaits l.far l.tower l.nodes l.run l.states l.n l.k l.i
