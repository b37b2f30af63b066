-- `pair_trial::target` meets its contract.
use borrow.Author.Rules.{rules}
use Rattle.pair_trial.proofs.Walking.{rows_laid, row_below, state_below, action_below, target_row_read, target_state_read}
use Rattle.pair_trial.proofs.target.Goals as goal

ruleset all = (rules, rows_laid, row_below, state_below, action_below, target_row_read, target_state_read)

pub row_target-requires : goal.row_target-requires
row_target-requires c = search all

pub returns-then-rows : goal.returns-then-rows
returns-then-rows c = search all

pub target-requires : goal.target-requires
target-requires c = search all

pub returns : goal.returns
returns c = search all
