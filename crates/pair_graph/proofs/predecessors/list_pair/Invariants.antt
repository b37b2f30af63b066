-- `pair_graph::predecessors::list_pair` meets its contract.
-- The invariant: the lists have the cells before that of the counter. The measure: how many actions are left.
use Prim.Native.Nat.{◌+◌, ◌-◌, ◌*◌}
use Rattle.pair_graph.proofs.Lists.{ListingCells}
use Rattle.pair_graph.proofs.predecessors.list_pair.Given as goal

abbrev pub invariant-loop-a : goal.invariant-loop-a
invariant-loop-a l = ListingCells l.n l.actions l.graph (16 * l.i + l.actions) (16 * l.i + l.a) l.initial.area l.area
