-- The loop keeps what `Blocking` says: the moves of the actions so far are written. They become fewer.
use Prim.Native.Nat.{◌-◌}
use Rattle.pair_trial.specs.Walked.{walked}
use Rattle.pair_step.proofs.Blocking.{Blocking}
use Rattle.pair_step.proofs.block.Given as goal

abbrev pub invariant-loop-a : goal.invariant-loop-a
invariant-loop-a l = Blocking (walked l.tower l.table l.rows) l.pairs l.i l.x l.actions l.a l.initial.graph l.graph
