use borrow.Author.Rules.{rules}
use Rattle.checker_runs.proofs.Ways.{no_actions, action_more, action_broken, actions_end}
use Rattle.checker_runs.proofs.first_broken_action.Goals as goal

ruleset all = (rules, no_actions, action_more, action_broken, actions_end)

pub loop-a-init : goal.loop-a-init
loop-a-init c = search all

pub broken_at-requires : goal.broken_at-requires
broken_at-requires c = search all

pub returns-then-broken_at : goal.returns-then-broken_at
returns-then-broken_at c = search all

pub loop-a-preserved : goal.loop-a-preserved
loop-a-preserved c = search all

pub returns : goal.returns
returns c = search all
