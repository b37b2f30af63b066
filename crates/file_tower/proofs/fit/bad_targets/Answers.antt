use borrow.Author.Rules.{rules}
use Rattle.area_bytes.proofs.Scans.{left_below, some_found, some_more, some_end}
use Rattle.file_tower.proofs.Ways.{scan_targets}
use Rattle.file_tower.proofs.fit.bad_targets.Goals as goal

ruleset all = (rules, scan_targets, left_below, some_found, some_more, some_end)

pub states_of-states-requires : goal.states_of-states-requires
states_of-states-requires c = search all

pub loop-x-init : goal.loop-x-init
loop-x-init c = search all

pub bad_targets_of-requires : goal.bad_targets_of-requires
bad_targets_of-requires c = search all

pub returns-then-bad_targets_of : goal.returns-then-bad_targets_of
returns-then-bad_targets_of c = search all

pub loop-x-preserved : goal.loop-x-preserved
loop-x-preserved c = search all

pub returns : goal.returns
returns c = search all
