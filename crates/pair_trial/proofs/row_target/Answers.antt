-- `pair_trial::row_target` meets its contract.
use borrow.Author.Rules.{rules}
use Rattle.pair_trial.proofs.Walking.{row_reached, row_nowhere}
use Rattle.pair_trial.proofs.row_target.Goals as goal

ruleset all = (rules, row_reached, row_nowhere)
