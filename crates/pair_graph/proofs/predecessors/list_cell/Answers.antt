-- `pair_graph::predecessors::list_cell` meets its contract.
use Rattle.pair_graph.proofs.Lists.{listed_nowhere, listed_more, head_room}
use borrow.Author.Rules.{rules}
use Rattle.pair_graph.proofs.predecessors.list_cell.Goals as goal

ruleset all = (rules, listed_nowhere, listed_more, head_room)

pub move_number-m-requires : goal.move_number-m-requires
move_number-m-requires c = search all

pub returns-then-m-lt-FIRST_PAIR : goal.returns-then-m-lt-FIRST_PAIR
returns-then-m-lt-FIRST_PAIR c = search all

pub overflow_mul-i : goal.overflow_mul-i
overflow_mul-i c = search all

pub overflow_add-i : goal.overflow_add-i
overflow_add-i c = search all

pub add-requires : goal.add-requires
add-requires c = search all

pub shape_of-area : goal.shape_of-area
shape_of-area c = search all

pub returns : goal.returns
returns c = search all
