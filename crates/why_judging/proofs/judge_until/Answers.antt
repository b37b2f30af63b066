use Rattle.why_judging.proofs.Parts.{ends_last, until_kept}
use Rattle.why_judging.proofs.Loops.{node_first, node_put, waits_back, node_end}
use borrow.Author.Rules.{rules}
use Rattle.why_judging.proofs.judge_until.Goals as goal

ruleset all = (rules, ends_last, until_kept, node_first, node_put, waits_back, node_end)

pub fresh-t-requires : goal.fresh-t-requires
fresh-t-requires c = search all

pub first-p-requires : goal.first-p-requires
first-p-requires c = search all

pub second-q-requires : goal.second-q-requires
second-q-requires c = search all

pub loop-i-init : goal.loop-i-init
loop-i-init c = (search all, search all)

pub ends_at-far-requires : goal.ends_at-far-requires
ends_at-far-requires c = record { node_next = search all; k_value = search all; p_value = search all; q_value = search all; i_lt_n = search all; node_waits = search all }

pub within-requires : goal.within-requires
within-requires c = search all

pub put_kept-requires : goal.put_kept-requires
put_kept-requires c = record { kept_size_in_bounds = search all; k_bound = search all; i_lt_position_room = search all }

pub loop-i-preserved : goal.loop-i-preserved
loop-i-preserved c = (search all, search all)

pub shape_of-kept : goal.shape_of-kept
shape_of-kept c = search all

pub returns : goal.returns
returns c = search all
