use Rattle.why_judging.proofs.Loops.{nodes_first, nodes_ready, nodes_next, nodes_end}
use borrow.Author.Rules.{rules}
use Rattle.why_judging.proofs.judge_in_order.Goals as goal

ruleset all = (rules, nodes_ready, nodes_next, nodes_end)

pub node_count-count-requires : goal.node_count-count-requires
node_count-count-requires c = search all

pub loop-k-init : goal.loop-k-init
loop-k-init c = nodes_first _ _ _ _ _ _ (search rules)

pub judge_node-requires : goal.judge_node-requires
judge_node-requires c = search all

pub loop-k-preserved : goal.loop-k-preserved
loop-k-preserved c = search all

pub shape_of-kept : goal.shape_of-kept
shape_of-kept c = search all

pub returns : goal.returns
returns c = search all
