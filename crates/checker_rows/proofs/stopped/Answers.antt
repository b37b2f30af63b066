use borrow.Author.Rules.{rules}
use Rattle.checker_rows.proofs.Ways.{has_header, row_end_fits, left_inside, left_action, left_fits, scan_stopped, step_goes_on, step_stops}
use Rattle.area_bytes.proofs.Scans.{left_start, every_end}
use Rattle.checker_rows.proofs.stopped.Goals as goal

ruleset all = (rules, has_header, row_end_fits, left_inside, left_action, left_fits, scan_stopped, step_goes_on, step_stops, left_start, every_end)

pub row_count-requires : goal.row_count-requires
row_count-requires c = search all

pub overflow_add-end : goal.overflow_add-end
overflow_add-end c = search all

pub loop-i-init : goal.loop-i-init
loop-i-init c = search all

pub step_action-requires : goal.step_action-requires
step_action-requires c = search all

pub kind-requires : goal.kind-requires
kind-requires c = search all

pub goes_on-requires : goal.goes_on-requires
goes_on-requires c = search all

pub returns-then-goes_on : goal.returns-then-goes_on
returns-then-goes_on c = search all

pub loop-i-preserved : goal.loop-i-preserved
loop-i-preserved c = search all

pub returns : goal.returns
returns c = search all

pub row_first-first-requires : goal.row_first-first-requires
row_first-first-requires c = search all
