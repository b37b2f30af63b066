-- `pair_trial::start` meets its contract.
use borrow.Author.Rules.{rules}
use Rattle.pair_trial.proofs.Walking.{start_row, start_state}
use Rattle.pair_trial.proofs.start.Goals as goal

ruleset all = (rules, start_row, start_state)

pub returns-then-rows : goal.returns-then-rows
returns-then-rows c = search all

pub start-requires : goal.start-requires
start-requires c = search all

pub returns : goal.returns
returns c = search all
