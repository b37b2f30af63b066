-- `pair_graph::predecessors::list_all` meets its contract.
-- The invariant: the lists have the cells of the pairs before the counter. The measure: how many pairs are left.
use Prim.Native.Nat.{◌-◌, ◌*◌}
use Rattle.pair_graph.proofs.Lists.{ListingCells}
use Rattle.pair_graph.proofs.predecessors.list_all.Given as goal

abbrev pub invariant-loop-i : goal.invariant-loop-i
invariant-loop-i l = ListingCells l.n l.actions l.graph (16 * l.n) (16 * l.i) l.initial.area l.area
