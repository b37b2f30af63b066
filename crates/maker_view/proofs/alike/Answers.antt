use borrow.Author.Tests.{not-true, not-false}
use Rattle.area_bytes.proofs.Scans.{left_below, every_more}
use Rattle.maker_view.proofs.Looks.{other_state, other_class, other_step, all_same}
use borrow.Author.Rules.{rules}
use Rattle.maker_view.proofs.alike.Goals as goal

ruleset all = (rules, not-true, not-false, left_below, every_more, other_state, other_class, other_step, all_same)

pub state-requires : goal.state-requires
state-requires c = search all

pub state-requires-2 : goal.state-requires-2
state-requires-2 c = search all

pub returns-then-state : goal.returns-then-state
returns-then-state c = search all

pub class-requires : goal.class-requires
class-requires c = search all

pub class-requires-2 : goal.class-requires-2
class-requires-2 c = search all

pub returns-then-class : goal.returns-then-class
returns-then-class c = search all

pub loop-a-init : goal.loop-a-init
loop-a-init c = search all

pub same_step-requires : goal.same_step-requires
same_step-requires c = record { flagged_graph = search rules; i_lt_pairs = search rules; j_lt_pairs = search rules; a_lt_actions = search rules; in_bounds = search rules }

pub returns-then-not-same_step : goal.returns-then-not-same_step
returns-then-not-same_step c = search all

pub loop-a-preserved : goal.loop-a-preserved
loop-a-preserved c = search all

pub returns : goal.returns
returns c = search all
