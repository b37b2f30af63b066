-- `pair_graph::move_number` meets its contract.
use borrow.Author.Rules.{rules}
use Rattle.pair_graph.specs.Steps.{cell}
use Rattle.pair_graph.proofs.move_number.Goals as goal

pub overflow_mul-i : goal.overflow_mul-i
unfolding cell
overflow_mul-i c = search rules

pub overflow_add-i : goal.overflow_add-i
unfolding cell
overflow_add-i c = search rules

pub overflow_mul-i-2 : goal.overflow_mul-i-2
unfolding cell
overflow_mul-i-2 c = search rules

pub two_bytes-requires : goal.two_bytes-requires
unfolding cell
two_bytes-requires c = search rules

pub returns : goal.returns
unfolding cell
returns c = search rules
