-- `pair_repeats::move_alike` meets its contract.
use borrow.Author.Rules.{rules}
use Rattle.pair_repeats.proofs.Ways.{alike_inside, alike_found}
use Rattle.pair_repeats.proofs.move_alike.Goals as goal

ruleset all = (rules, alike_inside, alike_found)

pub move_number-m-requires : goal.move_number-m-requires
move_number-m-requires c = record { graph_size_in_bounds = search rules; i_lt_pair_room = search rules; a_lt_action_room = search rules }

pub number-requires : goal.number-requires
number-requires c = record { i_bound = search all; entries_size_in_bounds = search rules }

pub returns : goal.returns
returns c = alike_found _ _ _ _ _ _ _ _ (search rules) _ (search rules) c.number.ensures (search rules) (search rules) (search rules) (search rules) (search rules)
