use borrow.Author.Rules.{rules}
use Rattle.area_bytes.proofs.Scans.{left_below, some_found, some_more, some_end}
use Rattle.file_tower.proofs.Ways.{scan_actions}
use Rattle.file_tower.proofs.fit.bad_actions.Goals as goal

ruleset all = (rules, scan_actions, left_below, some_found, some_more, some_end)

pub actions_of-actions-requires : goal.actions_of-actions-requires
actions_of-actions-requires c = search all

pub loop-a-init : goal.loop-a-init
loop-a-init c = search all

pub bad_action-requires : goal.bad_action-requires
bad_action-requires c = search all

pub returns-then-bad_action : goal.returns-then-bad_action
returns-then-bad_action c = search all

pub loop-a-preserved : goal.loop-a-preserved
loop-a-preserved c = search all

pub returns : goal.returns
returns c = search all
