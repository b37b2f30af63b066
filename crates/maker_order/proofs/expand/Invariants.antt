-- `maker_order::expand` meets its contract.
-- The invariant: the actions below the counter are done. The measure: how many are left.
use Prim.Native.Nat.{◌-◌}
use Rattle.maker_order.proofs.Ways.{Expanding}
use Rattle.maker_order.proofs.expand.Given as goal

abbrev pub invariant-loop-a : goal.invariant-loop-a
invariant-loop-a l = Expanding l.graph l.flags l.pairs l.actions l.i l.initial.area l.initial.met l.area l.met l.a
