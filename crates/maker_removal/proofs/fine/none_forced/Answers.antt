use borrow.Author.Tests.{not-true, not-false}
use Rattle.area_bytes.proofs.Scans.{left_below, every_fails, every_more, every_end}
use Rattle.maker_removal.proofs.Moves.{scan_forced}
use borrow.Author.Rules.{rules}
use Rattle.maker_removal.proofs.fine.none_forced.Goals as goal

ruleset all = (rules, not-true, not-false, scan_forced, left_below, every_fails, every_more, every_end)

pub actions-actions-requires : goal.actions-actions-requires
actions-actions-requires c = search all

pub loop-a-init : goal.loop-a-init
loop-a-init c = search all

pub not_forced-requires : goal.not_forced-requires
not_forced-requires c = search all

pub returns-then-not-not_forced : goal.returns-then-not-not_forced
returns-then-not-not_forced c = search all

pub loop-a-preserved : goal.loop-a-preserved
loop-a-preserved c = search all

pub returns : goal.returns
returns c = search all
