-- `maker_removal::fine::goes` meets its contract.
use borrow.Author.Tests.{not-true, not-false}
use Rattle.maker_removal.proofs.Moves.{no_goer, goer_leads}
use borrow.Author.Rules.{rules}
use Rattle.maker_removal.proofs.fine.goes.Goals as goal

ruleset all = (rules, not-true, not-false, no_goer, goer_leads)

pub kind-requires : goal.kind-requires
kind-requires c = search all

pub goes_on-requires : goal.goes_on-requires
goes_on-requires c = search all

pub returns-then-not-goes_on : goal.returns-then-not-goes_on
returns-then-not-goes_on c = search all

pub leads_inside-requires : goal.leads_inside-requires
leads_inside-requires c = search all

pub returns : goal.returns
returns c = search all
