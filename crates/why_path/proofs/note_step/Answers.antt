-- `why_path::note_step` meets its contract.
use Rattle.why_path.proofs.Noting.{noted_nowhere, pair_place, pair_inside, action_fits, action_place, action_inside, noted_step}
use borrow.Author.Rules.{rules}
use Rattle.why_path.proofs.note_step.Goals as goal

ruleset all = (rules, noted_nowhere, pair_place, pair_inside, action_fits, action_place, action_inside, noted_step)

pub move_number-m-requires : goal.move_number-m-requires
move_number-m-requires c = search all

pub returns-then-m-lt-FIRST_PAIR : goal.returns-then-m-lt-FIRST_PAIR
returns-then-m-lt-FIRST_PAIR c = search all

pub overflow_mul-j : goal.overflow_mul-j
overflow_mul-j c = search all

pub put_two_bytes-requires : goal.put_two_bytes-requires
put_two_bytes-requires c = search all

pub overflow_cast-ways : goal.overflow_cast-ways
overflow_cast-ways c = search all

pub overflow_add-ways : goal.overflow_add-ways
overflow_add-ways c = search all

pub bounds-ways-j : goal.bounds-ways-j
bounds-ways-j c = search all

pub shape_of-ways : goal.shape_of-ways
shape_of-ways c = search all

pub returns : goal.returns
returns c = search all
