use borrow.Author.Rules.{rules}
use Rattle.pair_trial.proofs.Walking.{actions_read}
use Rattle.pair_search.proofs.Growing.{grow_start, grow_ready, grow_listed, grow_end, grow_head, grow_size, grow_more, grow_many}
use Rattle.pair_search.proofs.follow_all.Goals as goal

ruleset all = (rules, actions_read, grow_start, grow_ready, grow_listed, grow_end, grow_head, grow_size, grow_more, grow_many)

pub actions-actions-requires : goal.actions-actions-requires
actions-actions-requires c = search all

pub loop-a-init : goal.loop-a-init
loop-a-init c = (search (rules, actions_read, grow_start), search rules, search rules, search rules)

pub step-n-requires : goal.step-n-requires
step-n-requires c = record { searching = search (rules, grow_ready); a_bound = search (rules, grow_listed) }

pub first-requires : goal.first-requires
first-requires c = record { i_bound = search (rules, grow_head); entries_size_in_bounds = search (rules, grow_size) }

pub shape_of-pairs-then-first-gt-MOST : goal.shape_of-pairs-then-first-gt-MOST
shape_of-pairs-then-first-gt-MOST c = search all

pub shape_of-index-then-first-gt-MOST : goal.shape_of-index-then-first-gt-MOST
shape_of-index-then-first-gt-MOST c = search all

pub shape_of-graph-then-first-gt-MOST : goal.shape_of-graph-then-first-gt-MOST
shape_of-graph-then-first-gt-MOST c = search all

pub returns-then-first-gt-MOST : goal.returns-then-first-gt-MOST
returns-then-first-gt-MOST c = search (rules, grow_many)

pub loop-a-preserved : goal.loop-a-preserved
loop-a-preserved c = (
  grow_more _ _ _ _ _ _ _ _ _ _ _ _ c.loop-a.invariant.0 _ _ _ _ c.loop-a-test.true c.step-n.ensures _ c.first.ensures c.if-first-gt-MOST.false (search rules) (search rules),
  search rules,
  search rules,
  search rules,
)

pub shape_of-pairs : goal.shape_of-pairs
shape_of-pairs c = search all

pub shape_of-index : goal.shape_of-index
shape_of-index c = search all

pub shape_of-graph : goal.shape_of-graph
shape_of-graph c = search all

pub returns : goal.returns
returns c = search (rules, grow_end)
