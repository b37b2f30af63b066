-- `testing::tower::test_read_tower` meets its contract.
use borrow.Author.Rules.{rules}
use Rattle.testing.specs.Said.{tower_said}
use Rattle.testing.proofs.Laws.{tower_by}
use Rattle.testing.proofs.tower.test_read_tower.Goals as goal

ruleset all = (rules, tower_by)

pub returns-in-Ok : goal.returns-in-Ok
unfolding tower_said
returns-in-Ok c = search all

pub returns-in-Err : goal.returns-in-Err
unfolding tower_said
returns-in-Err c = search all
