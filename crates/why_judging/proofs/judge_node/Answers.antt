-- `judge_node`: by the kind of the node.
use Rattle.why_judging.proofs.Parts.{until_code}
use borrow.Author.Rules.{rules}
use Rattle.why_judging.proofs.judge_node.Goals as goal

ruleset all = (rules, until_code)

pub code-code-requires : goal.code-code-requires
code-code-requires c = search all

pub judge_leaf-requires : goal.judge_leaf-requires
judge_leaf-requires c = record { node_next = search all; k_bound = search all }

pub shape_of-kept-then-code-le-WANTED : goal.shape_of-kept-then-code-le-WANTED
shape_of-kept-then-code-le-WANTED c = search all

pub returns-then-code-le-WANTED : goal.returns-then-code-le-WANTED
returns-then-code-le-WANTED c = search all

pub judge_both-requires : goal.judge_both-requires
judge_both-requires c = record { node_next = search all; bound = search all; k_bound = search all }

pub shape_of-kept-then-code-lt-NO_MORE : goal.shape_of-kept-then-code-lt-NO_MORE
shape_of-kept-then-code-lt-NO_MORE c = search all

pub returns-then-code-lt-NO_MORE : goal.returns-then-code-lt-NO_MORE
returns-then-code-lt-NO_MORE c = search all

pub judge_next-requires : goal.judge_next-requires
judge_next-requires c = record { node_next = search all; bound = search all; k_bound = search all }

pub shape_of-kept-then-code-lt-ALWAYS : goal.shape_of-kept-then-code-lt-ALWAYS
shape_of-kept-then-code-lt-ALWAYS c = search all

pub returns-then-code-lt-ALWAYS : goal.returns-then-code-lt-ALWAYS
returns-then-code-lt-ALWAYS c = search all

pub judge_always-requires : goal.judge_always-requires
judge_always-requires c = record { node_next = search all; k_value = search all }

pub shape_of-kept-then-code-eq-ALWAYS : goal.shape_of-kept-then-code-eq-ALWAYS
shape_of-kept-then-code-eq-ALWAYS c = search all

pub returns-then-code-eq-ALWAYS : goal.returns-then-code-eq-ALWAYS
returns-then-code-eq-ALWAYS c = search all

pub judge_until-requires : goal.judge_until-requires
judge_until-requires c = record { node_next = search all; k_value = search all }

pub shape_of-kept : goal.shape_of-kept
shape_of-kept c = search all

pub returns : goal.returns
returns c = search all
