use borrow.Author.Rules.{rules}
use Rattle.pair_search.proofs.Exploring.{explore_start, explore_ready, explore_head, explore_size, explore_many, explore_more, explore_wide, explore_done}
use Rattle.pair_search.proofs.explore_on.Goals as goal

ruleset all = (rules, explore_start, explore_ready, explore_head, explore_size, explore_many, explore_more, explore_wide, explore_done)

pub loop-i-init : goal.loop-i-init
loop-i-init c = (search (rules, explore_start), search rules, search rules, search rules, search rules, search rules)

pub overflow_add-i : goal.overflow_add-i
overflow_add-i c = search all

pub turn-done-requires : goal.turn-done-requires
turn-done-requires c = record { turning = explore_ready _ _ _ _ _ _ _ _ _ _ _ c.loop-i.invariant.0 c.requires.walkable c.requires.wide_right c.loop-i-test.true; sets_size_in_bounds = search rules; room_size_in_bounds = search rules }

pub first-requires : goal.first-requires
first-requires c = record { i_bound = search (rules, explore_head); entries_size_in_bounds = search (rules, explore_size) }

pub shape_of-pairs-then-first-gt-MOST : goal.shape_of-pairs-then-first-gt-MOST
shape_of-pairs-then-first-gt-MOST c = search all

pub shape_of-index-then-first-gt-MOST : goal.shape_of-index-then-first-gt-MOST
shape_of-index-then-first-gt-MOST c = search all

pub shape_of-graph-then-first-gt-MOST : goal.shape_of-graph-then-first-gt-MOST
shape_of-graph-then-first-gt-MOST c = search all

pub shape_of-sets-then-first-gt-MOST : goal.shape_of-sets-then-first-gt-MOST
shape_of-sets-then-first-gt-MOST c = search all

pub shape_of-room-then-first-gt-MOST : goal.shape_of-room-then-first-gt-MOST
shape_of-room-then-first-gt-MOST c = search all

pub returns-then-first-gt-MOST : goal.returns-then-first-gt-MOST
returns-then-first-gt-MOST c = explore_many _ _ _ _ _ _ _ _ _ c.loop-i.invariant.0 _ _ _ _ c.loop-i-test.true c.turn-done.ensures _ c.first.ensures c.if-first-gt-MOST.true

pub loop-i-smaller : goal.loop-i-smaller
loop-i-smaller c = search all

pub loop-i-preserved : goal.loop-i-preserved
loop-i-preserved c = (explore_more _ _ _ _ _ _ _ _ _ c.loop-i.invariant.0 _ _ _ _ c.loop-i-test.true c.turn-done.ensures _ c.first.ensures c.if-first-gt-MOST.false (search rules) (search rules), search rules, search rules, search rules, search rules, search rules)

pub shape_of-pairs-then-over : goal.shape_of-pairs-then-over
shape_of-pairs-then-over c = search all

pub shape_of-index-then-over : goal.shape_of-index-then-over
shape_of-index-then-over c = search all

pub shape_of-graph-then-over : goal.shape_of-graph-then-over
shape_of-graph-then-over c = search all

pub shape_of-sets-then-over : goal.shape_of-sets-then-over
shape_of-sets-then-over c = search all

pub shape_of-room-then-over : goal.shape_of-room-then-over
shape_of-room-then-over c = search all

pub returns-then-over : goal.returns-then-over
returns-then-over c = search (rules, explore_wide)

pub shape_of-pairs : goal.shape_of-pairs
shape_of-pairs c = search all

pub shape_of-index : goal.shape_of-index
shape_of-index c = search all

pub shape_of-graph : goal.shape_of-graph
shape_of-graph c = search all

pub shape_of-sets : goal.shape_of-sets
shape_of-sets c = search all

pub shape_of-room : goal.shape_of-room
shape_of-room c = search all

pub returns : goal.returns
returns c = search (rules, explore_done)
