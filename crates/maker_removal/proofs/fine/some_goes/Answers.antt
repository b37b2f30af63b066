use Rattle.area_bytes.proofs.Scans.{left_below, some_found, some_more, some_end}
use Rattle.maker_removal.proofs.Moves.{scan_goes}
use borrow.Author.Rules.{rules}
use Rattle.maker_removal.proofs.fine.some_goes.Goals as goal

ruleset all = (rules, scan_goes, left_below, some_found, some_more, some_end)

pub actions-actions-requires : goal.actions-actions-requires
actions-actions-requires c = search all

pub loop-a-init : goal.loop-a-init
loop-a-init c = search all

pub goes-requires : goal.goes-requires
goes-requires c = search all

pub returns-then-goes : goal.returns-then-goes
returns-then-goes c = search all

pub loop-a-preserved : goal.loop-a-preserved
loop-a-preserved c = search all

pub returns : goal.returns
returns c = search all
