-- `checker_files::test_files` meets its contract.
use borrow.Author.Rules.{rules}
use Rattle.checker_files.proofs.Ways.{tower_refused, tower_fit, tower_good}
use Rattle.checker_files.proofs.test_files.Goals as goal

ruleset all = (rules, tower_refused, tower_fit, tower_good)

pub test_table-requires : goal.test_table-requires
test_table-requires c = search (all, c.in_ok-read_tower.was)

pub returns : goal.returns
returns c = search (all, c.in_ok-read_tower.was)

pub returns-in_err-read_tower : goal.returns-in_err-read_tower
returns-in_err-read_tower c = search (all, c.in_err-read_tower.was)
