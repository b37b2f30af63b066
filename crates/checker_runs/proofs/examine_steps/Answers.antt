use borrow.Author.Rules.{rules}
use Rattle.checker_runs.proofs.Ways.{steps_actions, no_pairs, pair_more, pair_breaks, pairs_end}
use Rattle.checker_runs.proofs.examine_steps.Goals as goal

ruleset all = (rules, steps_actions, no_pairs, pair_more, pair_breaks, pairs_end)

pub actions-actions-requires : goal.actions-actions-requires
actions-actions-requires c = search all

pub loop-i-init : goal.loop-i-init
loop-i-init c = search all

pub loop-i-preserved : goal.loop-i-preserved
loop-i-preserved c = search all

pub returns : goal.returns
returns c = search all

pub returns-in-Some : goal.returns-in-Some
returns-in-Some c = search all
