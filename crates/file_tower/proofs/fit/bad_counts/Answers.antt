-- `file_tower::fit::bad_counts` meets its contract.
use borrow.Author.Rules.{rules}
use borrow.Author.Tests.{not-true, not-false}
use Rattle.file_tower.proofs.Ways.{counts_states, counts_actions, counts_marks, counts_start}
use Rattle.file_tower.proofs.fit.bad_counts.Goals as goal

ruleset all = (rules, not-true, not-false, counts_states, counts_actions, counts_marks, counts_start)

pub layout_of-layout-requires : goal.layout_of-layout-requires
layout_of-layout-requires c = search all

pub states_of-states-requires : goal.states_of-states-requires
states_of-states-requires c = search all

pub in_range-requires : goal.in_range-requires
in_range-requires c = search all

pub returns-then-not-in_range : goal.returns-then-not-in_range
returns-then-not-in_range c = search all

pub actions_of-requires : goal.actions_of-requires
actions_of-requires c = search all

pub in_range-requires-2 : goal.in_range-requires-2
in_range-requires-2 c = search all

pub returns-then-not-in_range-2 : goal.returns-then-not-in_range-2
returns-then-not-in_range-2 c = search all

pub marks_of-requires : goal.marks_of-requires
marks_of-requires c = search all

pub returns-then-marks_of-gt-MOST_MARKS : goal.returns-then-marks_of-gt-MOST_MARKS
returns-then-marks_of-gt-MOST_MARKS c = search all

pub start_of-requires : goal.start_of-requires
start_of-requires c = search all

pub returns : goal.returns
returns c = search all
