-- `pair_trial::share` meets its contract.
use borrow.Author.Rules.{rules}
use Rattle.pair_trial.proofs.Waiting.{second_there, second_here, shared_both}
use Rattle.pair_trial.proofs.share.Goals as goal

ruleset all = (rules, second_there, second_here, shared_both)

pub overflow_add-room : goal.overflow_add-room
overflow_add-room c = search all

pub bounds-room-b : goal.bounds-room-b
bounds-room-b c = search all

pub overflow_add-room-2 : goal.overflow_add-room-2
overflow_add-room-2 c = search all

pub bounds-room-a : goal.bounds-room-a
bounds-room-a c = search all

pub overflow_add-room-3 : goal.overflow_add-room-3
overflow_add-room-3 c = search all

pub bounds-room-b-2 : goal.bounds-room-b-2
bounds-room-b-2 c = search all

pub overflow_add-room-4 : goal.overflow_add-room-4
overflow_add-room-4 c = search all

pub bounds-room-a-2 : goal.bounds-room-a-2
bounds-room-a-2 c = search all

pub shape_of-room : goal.shape_of-room
shape_of-room c = search all

pub returns : goal.returns
returns c = search all
