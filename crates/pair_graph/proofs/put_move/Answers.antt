-- `pair_graph::put_move` meets its contract.
use borrow.Author.Rules.{rules}
use Rattle.pair_graph.specs.Steps.{cell}
use Rattle.pair_graph.proofs.put_move.Goals as goal

pub overflow_mul-i : goal.overflow_mul-i
unfolding cell
overflow_mul-i c = search rules

pub overflow_add-i : goal.overflow_add-i
unfolding cell
overflow_add-i c = search rules

pub overflow_mul-i-2 : goal.overflow_mul-i-2
unfolding cell
overflow_mul-i-2 c = search rules

pub put_two_bytes-requires : goal.put_two_bytes-requires
unfolding cell
put_two_bytes-requires c = search rules

pub shape_of-graph : goal.shape_of-graph
unfolding cell
shape_of-graph c = search rules

pub returns : goal.returns
unfolding cell
returns c = search rules
