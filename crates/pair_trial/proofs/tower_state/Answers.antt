-- `pair_trial::tower_state` meets its contract.
use borrow.Author.Rules.{rules}
use Rattle.pair_trial.proofs.Walking.{rows_header, row_below, state_of_row, state_itself}
use Rattle.pair_trial.proofs.tower_state.Goals as goal

ruleset all = (rules, rows_header, row_below, state_of_row, state_itself)

pub row_state-requires : goal.row_state-requires
row_state-requires c = search all

pub returns-then-rows : goal.returns-then-rows
returns-then-rows c = search all

pub returns : goal.returns
returns c = search all
