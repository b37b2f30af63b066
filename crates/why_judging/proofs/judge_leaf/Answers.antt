-- `judge_leaf`: a constant, or a mark by the byte that shows it.
use Rattle.book_progression.proofs.Nodes.{mark_low}
use Rattle.why_judging.proofs.Marks.{constant_said, shown_low, shown_high}
use borrow.Author.Rules.{rules}
use Rattle.why_judging.proofs.judge_leaf.Goals as goal

ruleset all = (rules, mark_low, constant_said, shown_low, shown_high)

pub code-code-requires : goal.code-code-requires
code-code-requires c = search all

pub judge_constant-requires : goal.judge_constant-requires
judge_constant-requires c = record { node_next = search all; k_bound = search all; b_value = search all }

pub shape_of-kept-then-code-le-TRUE : goal.shape_of-kept-then-code-le-TRUE
shape_of-kept-then-code-le-TRUE c = search all

pub returns-then-code-le-TRUE : goal.returns-then-code-le-TRUE
returns-then-code-le-TRUE c = search all

pub number-m-requires : goal.number-m-requires
number-m-requires c = search all

pub judge_mark-requires : goal.judge_mark-requires
judge_mark-requires c = record { node_next = search all; mark_shown = search all }

pub shape_of-kept-then-m-lt8 : goal.shape_of-kept-then-m-lt8
shape_of-kept-then-m-lt8 c = search all

pub returns-then-m-lt8 : goal.returns-then-m-lt8
returns-then-m-lt8 c = search all

pub judge_mark-requires-2 : goal.judge_mark-requires-2
judge_mark-requires-2 c = record { node_next = search all; mark_shown = search all }

pub shape_of-kept : goal.shape_of-kept
shape_of-kept c = search all

pub returns : goal.returns
returns c = search all
