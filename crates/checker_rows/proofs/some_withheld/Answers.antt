use borrow.Author.Rules.{rules}
use Rattle.checker_rows.proofs.Ways.{scan_withheld}
use Rattle.area_bytes.proofs.Scans.{left_below, some_found, some_more, some_end}
use Rattle.checker_rows.proofs.some_withheld.Goals as goal

ruleset all = (rules, scan_withheld, left_below, some_found, some_more, some_end)

pub actions-actions-requires : goal.actions-actions-requires
actions-actions-requires c = search all

pub loop-a-init : goal.loop-a-init
loop-a-init c = search all

pub withheld-requires : goal.withheld-requires
withheld-requires c = search all

pub returns-then-withheld : goal.returns-then-withheld
returns-then-withheld c = search all

pub loop-a-preserved : goal.loop-a-preserved
loop-a-preserved c = search all

pub returns : goal.returns
returns c = search all
