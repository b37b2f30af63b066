-- `maker_view::same_step` meets its contract.
use Rattle.maker_view.proofs.Looks.{shows_both}
use borrow.Author.Rules.{rules}
use Rattle.maker_view.proofs.same_step.Goals as goal

ruleset all = (rules, shows_both)

pub seen-requires : goal.seen-requires
seen-requires c = search all

pub seen-requires-2 : goal.seen-requires-2
seen-requires-2 c = search all

pub returns : goal.returns
returns c = search all
