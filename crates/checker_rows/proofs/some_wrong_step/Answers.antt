use borrow.Author.Rules.{rules}
use Rattle.checker_rows.proofs.Ways.{has_header, row_end_fits, left_fits, scan_wrong_steps}
use Rattle.area_bytes.proofs.Scans.{left_start, some_found, some_more, some_end}
use Rattle.checker_rows.proofs.some_wrong_step.Goals as goal

ruleset all = (rules, has_header, row_end_fits, left_fits, scan_wrong_steps, left_start, some_found, some_more, some_end)

pub row_count-requires : goal.row_count-requires
row_count-requires c = search all

pub overflow_add-end : goal.overflow_add-end
overflow_add-end c = search all

pub loop-i-init : goal.loop-i-init
loop-i-init c = search all

pub wrong_step-requires : goal.wrong_step-requires
wrong_step-requires c = search all

pub returns-then-wrong_step : goal.returns-then-wrong_step
returns-then-wrong_step c = search all

pub loop-i-preserved : goal.loop-i-preserved
loop-i-preserved c = search all

pub returns : goal.returns
returns c = search all

pub row_first-first-requires : goal.row_first-first-requires
row_first-first-requires c = search all
