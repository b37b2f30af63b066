use Rattle.why_judging.proofs.Loops.{node_first, node_put, node_end}
use borrow.Author.Rules.{rules}
use Rattle.why_judging.proofs.judge_next.Goals as goal

ruleset all = (rules, node_first, node_put, node_end)

pub code-code-requires : goal.code-code-requires
code-code-requires c = search all

pub fresh-t-requires : goal.fresh-t-requires
fresh-t-requires c = search all

pub second-q-requires : goal.second-q-requires
second-q-requires c = search all

pub loop-i-init : goal.loop-i-init
loop-i-init c = search all

pub next_at-b-requires : goal.next_at-b-requires
next_at-b-requires c = record { node_next = search all; code_value = search all; bound = search all; k_bound = search all; t_value = search all; q_value = search all; i_lt_n = search all }

pub put_kept-requires : goal.put_kept-requires
put_kept-requires c = record { kept_size_in_bounds = search all; k_bound = search all; i_lt_position_room = search all }

pub loop-i-preserved : goal.loop-i-preserved
loop-i-preserved c = search all

pub shape_of-kept : goal.shape_of-kept
shape_of-kept c = search all

pub returns : goal.returns
returns c = search all
