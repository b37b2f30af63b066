-- `maker_removal::fine::leads_inside` meets its contract.
use Rattle.maker_removal.proofs.Moves.{judged_graph, led_inside, led_outside}
use borrow.Author.Rules.{rules}
use Rattle.maker_removal.proofs.fine.leads_inside.Goals as goal

ruleset all = (rules, judged_graph, led_inside, led_outside)

pub actions-requires : goal.actions-requires
actions-requires c = search all

pub returns : goal.returns
returns c = search all
