-- `checker_files::test_table` meets its contract.
use borrow.Author.Rules.{rules}
use borrow.Author.Tests.{not-true, not-false}
use Rattle.checker_files.proofs.Ways.{not_for_tower, judgeable, rows_right, rows_wrong}
use Rattle.checker_files.proofs.test_table.Goals as goal

ruleset all = (rules, not-true, not-false, not_for_tower, judgeable, rows_right, rows_wrong)

pub for_tower-requires : goal.for_tower-requires
for_tower-requires c = search all

pub returns-then-not-for_tower : goal.returns-then-not-for_tower
returns-then-not-for_tower c = search all

pub judge_rows-requires : goal.judge_rows-requires
judge_rows-requires c = search all

pub returns-in_err-judge_rows : goal.returns-in_err-judge_rows
returns-in_err-judge_rows c = search all

pub returns : goal.returns
returns c = search all
