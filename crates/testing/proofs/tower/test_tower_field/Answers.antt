-- `testing::tower::test_tower_field` meets its contract.
use borrow.Author.Rules.{rules}
use Rattle.file_tower.proofs.Laws.{fit_of}
use Rattle.testing.proofs.tower.test_tower_field.Goals as goal

ruleset all = (rules, fit_of)

pub states-requires : goal.states-requires
states-requires c = search all

pub actions-requires : goal.actions-requires
actions-requires c = search all

pub marks-requires : goal.marks-requires
marks-requires c = search all

pub start-requires : goal.start-requires
start-requires c = search all

pub kind-requires : goal.kind-requires
kind-requires c = search all

pub step_field-requires : goal.step_field-requires
step_field-requires c = search all

pub state_field-requires : goal.state_field-requires
state_field-requires c = search all
