-- The loop copies the alternatives one by one. They become fewer.
use Prim.Native.Nat.{◌-◌}
use Rattle.pair_trial.proofs.Waiting.{Copying}
use Rattle.pair_trial.proofs.set_aside.Given as goal

abbrev pub invariant-loop-j : goal.invariant-loop-j
invariant-loop-j l = Copying l.cells l.sets l.left l.initial.room l.to l.j l.room
