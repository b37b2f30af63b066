-- `pair_graph::is_safe` meets its contract.
use borrow.Author.Rules.{rules}
use Rattle.pair_graph.specs.Steps.{safe_in}
use Rattle.pair_graph.proofs.is_safe.Goals as goal

pub bounds-flags-i : goal.bounds-flags-i
unfolding safe_in
bounds-flags-i c = search rules

pub returns : goal.returns
unfolding safe_in
returns c = search rules
