use borrow.Author.Rules.{rules}
use Rattle.pair_trial.proofs.Waiting.{copying_start, copying_to, copying_from, copying_next, copying_end}
use Rattle.pair_trial.proofs.set_aside.Goals as goal

ruleset all = (rules, copying_start, copying_to, copying_from, copying_next, copying_end)

pub loop-j-init : goal.loop-j-init
loop-j-init c = search all

pub overflow_mul-j : goal.overflow_mul-j
overflow_mul-j c = search all

pub overflow_mul-j-in-loop-j : goal.overflow_mul-j-in-loop-j
overflow_mul-j-in-loop-j c = search all

pub overflow_add-to : goal.overflow_add-to
overflow_add-to c = search all

pub copy-requires : goal.copy-requires
copy-requires c = record { n_in_bounds = search all; n_in_bounds_2 = search all }

pub loop-j-preserved : goal.loop-j-preserved
loop-j-preserved c = search all

pub shape_of-room : goal.shape_of-room
shape_of-room c = search all

pub returns : goal.returns
returns c = search all
