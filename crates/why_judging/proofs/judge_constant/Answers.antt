use Rattle.why_judging.proofs.Loops.{constant_back, node_first, node_put, node_end}
use borrow.Author.Rules.{rules}
use Rattle.why_judging.proofs.judge_constant.Goals as goal

ruleset all = (rules, constant_back, node_first, node_put, node_end)

pub loop-i-init : goal.loop-i-init
loop-i-init c = search all

pub put_kept-requires : goal.put_kept-requires
put_kept-requires c = record { kept_size_in_bounds = search all; k_bound = search all; i_lt_position_room = search all }

pub loop-i-preserved : goal.loop-i-preserved
loop-i-preserved c = search all

pub shape_of-kept : goal.shape_of-kept
shape_of-kept c = search all

pub returns : goal.returns
returns c = search all
