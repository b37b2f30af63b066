use borrow.Author.Rules.{rules}
use Rattle.pair_trial.proofs.Walking.{actions_read}
use Rattle.pair_step.proofs.Blocking.{block_start, block_state, block_listed, block_room, block_next, block_end}
use Rattle.pair_step.proofs.block.Goals as goal

ruleset all = (rules, actions_read, block_start, block_state, block_listed, block_room, block_next, block_end)

pub number-x-requires : goal.number-x-requires
number-x-requires c = record { i_bound = search all; entries_size_in_bounds = search all }

pub actions-actions-requires : goal.actions-actions-requires
actions-actions-requires c = search all

pub loop-a-init : goal.loop-a-init
loop-a-init c = search all

pub blocked_code-code-requires : goal.blocked_code-code-requires
blocked_code-code-requires c = record { files = search all; x_bound = search all; a_bound = search all }

pub put_move-requires : goal.put_move-requires
put_move-requires c = record { graph_size_in_bounds = search all; i_lt_pair_room = search all; a_lt_action_room = search all }

pub loop-a-preserved : goal.loop-a-preserved
loop-a-preserved c = block_next _ _ _ _ _ _ _ _ _ _ c.put_move.ensures c.loop-a.invariant c.blocked_code-code.ensures c.loop-a-test.true

pub shape_of-graph : goal.shape_of-graph
shape_of-graph c = search all

pub returns : goal.returns
returns c = search all
