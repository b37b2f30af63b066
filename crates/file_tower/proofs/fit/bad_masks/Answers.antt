use borrow.Author.Rules.{rules}
use Rattle.area_bytes.proofs.Scans.{left_below, some_found, some_more, some_end}
use Rattle.file_tower.proofs.Ways.{scan_masks}
use Rattle.file_tower.proofs.fit.bad_masks.Goals as goal

ruleset all = (rules, scan_masks, left_below, some_found, some_more, some_end)

pub states_of-states-requires : goal.states_of-states-requires
states_of-states-requires c = search all

pub loop-x-init : goal.loop-x-init
loop-x-init c = search all

pub bad_mask-requires : goal.bad_mask-requires
bad_mask-requires c = search all

pub returns-then-bad_mask : goal.returns-then-bad_mask
returns-then-bad_mask c = search all

pub loop-x-preserved : goal.loop-x-preserved
loop-x-preserved c = search all

pub returns : goal.returns
returns c = search all
