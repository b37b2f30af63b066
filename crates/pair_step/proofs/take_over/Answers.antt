-- `pair_step::take_over` meets its contract.
use borrow.Author.Rules.{rules}
use Rattle.pair_step.proofs.Entering.{take_broken, take_inside, take_few, take_copied}
use Rattle.pair_step.proofs.take_over.Goals as goal

ruleset all = (rules, take_broken, take_inside, take_few, take_copied)

pub move_number-m-requires : goal.move_number-m-requires
move_number-m-requires c = record { graph_size_in_bounds = search all; i_lt_pair_room = search all; a_lt_action_room = search all }

pub returns-then-m-lt-FIRST_PAIR : goal.returns-then-m-lt-FIRST_PAIR
returns-then-m-lt-FIRST_PAIR c = search all

pub copy-requires : goal.copy-requires
copy-requires c = record { fact = search all; j_lt_n = search all; j_bound = search all; number_bound = search all }

pub shape_of-pairs : goal.shape_of-pairs
shape_of-pairs c = search all

pub returns : goal.returns
returns c = search all
