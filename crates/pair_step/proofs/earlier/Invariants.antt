-- The loop goes over the actions before a. They become fewer.
use Prim.Native.Nat.{◌-◌, ◌≤◌}
use Rattle.pair_step.proofs.earlier.Given as goal

abbrev pub invariant-loop-b : goal.invariant-loop-b
invariant-loop-b l = l.b ≤ l.a
