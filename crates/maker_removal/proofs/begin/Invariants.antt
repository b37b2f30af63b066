-- `maker_removal::begin` meets its contract.
-- The invariant: the pairs below the counter are safe. The measure: how many are left.
use Prim.Native.Nat.{◌-◌}
use Rattle.maker_removal.proofs.Flags.{Flagging}
use Rattle.maker_removal.proofs.begin.Given as goal

abbrev pub invariant-loop-i : goal.invariant-loop-i
invariant-loop-i l = Flagging l.n l.initial.area l.area l.i
