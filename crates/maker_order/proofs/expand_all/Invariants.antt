-- `maker_order::expand_all` meets its contract.
-- The invariant: the rows below the counter are expanded. The measure: how many pairs could still be rows.
use Prim.Native.Nat.{◌-◌}
use Rattle.maker_order.proofs.Ways.{SearchingRows}
use Rattle.maker_order.proofs.expand_all.Given as goal

abbrev pub invariant-loop-r : goal.invariant-loop-r
invariant-loop-r l = SearchingRows l.graph l.flags l.pairs l.actions l.initial.area l.area l.rows l.r

abbrev pub decreases-loop-r : goal.decreases-loop-r
decreases-loop-r l = l.pairs - l.r
