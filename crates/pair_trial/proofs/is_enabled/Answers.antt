-- `pair_trial::is_enabled` meets its contract.
use borrow.Author.Rules.{rules}
use Rattle.pair_trial.proofs.Walking.{enabled_there, enabled_not}
use Rattle.pair_trial.proofs.is_enabled.Goals as goal

ruleset all = (rules, enabled_there, enabled_not)

pub returns : goal.returns
returns c = search all
