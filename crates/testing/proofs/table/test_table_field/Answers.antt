-- `testing::table::test_table_field` meets its contract.
use borrow.Author.Rules.{rules}
use borrow.Author.Tests.{not-true, not-false}
use Rattle.file_table.proofs.Laws.{holds_by, header_of}
use Rattle.testing.proofs.table.test_table_field.Goals as goal

ruleset all = (rules, not-true, not-false, holds_by, header_of)

pub rows-requires : goal.rows-requires
rows-requires c = search all

pub steps-requires : goal.steps-requires
steps-requires c = search all

pub states-requires : goal.states-requires
states-requires c = search all

pub actions-requires : goal.actions-requires
actions-requires c = search all

pub row_field-requires : goal.row_field-requires
row_field-requires c = search all

pub step_field-requires : goal.step_field-requires
step_field-requires c = search all
