-- `file_tower::target` meets its contract.
use borrow.Author.Rules.{rules}
use Rattle.file_tower.proofs.Laws.{fit_sized}
use Rattle.file_tower.proofs.Ways.{state_within, action_within, target_none, target_some}
use Rattle.file_tower.proofs.target.Goals as goal

ruleset all = (rules, fit_sized, state_within, action_within, target_none, target_some)

pub target_of-y-requires : goal.target_of-y-requires
target_of-y-requires c = search all

pub layout_of-layout-requires : goal.layout_of-layout-requires
layout_of-layout-requires c = search all

pub returns-then-y-layout : goal.returns-then-y-layout
returns-then-y-layout c = search all

pub returns : goal.returns
returns c = search all
