-- `pair_graph::enabled` meets its contract.
use borrow.Author.Rules.{rules}
use Rattle.pair_graph.proofs.Moves.{enabled_read}
use Rattle.pair_graph.proofs.enabled.Goals as goal

ruleset all = (rules, enabled_read)

pub move_number-requires : goal.move_number-requires
move_number-requires c = search all

pub returns : goal.returns
returns c = search all
