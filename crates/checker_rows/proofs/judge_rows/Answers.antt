use borrow.Author.Rules.{rules}
use Rattle.checker_rows.proofs.Ways.{has_header, rows_wrong_start, rows_wrong, rows_right, rows_more}
use Rattle.area_bytes.proofs.Scans.{left_below}
use Rattle.checker_rows.proofs.judge_rows.Goals as goal

ruleset all = (rules, has_header, rows_wrong_start, rows_wrong, rows_right, rows_more, left_below)

pub wrong_start-requires : goal.wrong_start-requires
wrong_start-requires c = search all

pub returns-then-wrong_start : goal.returns-then-wrong_start
returns-then-wrong_start c = search all

pub rows-rows-requires : goal.rows-rows-requires
rows-rows-requires c = search all

pub loop-r-init : goal.loop-r-init
loop-r-init c = search all

pub loop-r-preserved : goal.loop-r-preserved
loop-r-preserved c = search all

pub returns : goal.returns
returns c = search all

pub returns-in_err-judge_row : goal.returns-in_err-judge_row
returns-in_err-judge_row c = search all
