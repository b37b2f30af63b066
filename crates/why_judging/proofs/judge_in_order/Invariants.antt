-- `judge_in_order`: nodes in order.
use Prim.Native.Nat.{◌-◌}
use Rattle.why_judging.proofs.Loops.{NodesJudging}
use Rattle.why_judging.proofs.judge_in_order.Given as goal

abbrev pub invariant-loop-k : goal.invariant-loop-k
invariant-loop-k l = NodesJudging l.tower l.nodes l.run l.states l.n l.initial.kept l.k l.kept
