-- `maker_removal::fine::not_forced` meets its contract.
use borrow.Author.Tests.{not-true, not-false}
use Rattle.maker_removal.proofs.Moves.{may_withhold, not_there, has_to_lead}
use borrow.Author.Rules.{rules}
use Rattle.maker_removal.proofs.fine.not_forced.Goals as goal

ruleset all = (rules, not-true, not-false, may_withhold, not_there, has_to_lead)

pub kind-requires : goal.kind-requires
kind-requires c = search all

pub controllable-requires : goal.controllable-requires
controllable-requires c = search all

pub returns-then-controllable : goal.returns-then-controllable
returns-then-controllable c = search all

pub enabled-requires : goal.enabled-requires
enabled-requires c = search all

pub returns-then-not-enabled : goal.returns-then-not-enabled
returns-then-not-enabled c = search all

pub leads_inside-requires : goal.leads_inside-requires
leads_inside-requires c = search all

pub returns : goal.returns
returns c = search all
