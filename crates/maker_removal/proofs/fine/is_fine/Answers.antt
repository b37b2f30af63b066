-- `maker_removal::fine::is_fine` meets its contract.
use borrow.Author.Tests.{not-true, not-false}
use Rattle.maker_removal.proofs.Moves.{not_fine, fine_if_goes}
use borrow.Author.Rules.{rules}
use Rattle.maker_removal.proofs.fine.is_fine.Goals as goal

ruleset all = (rules, not-true, not-false, not_fine, fine_if_goes)

pub none_forced-requires : goal.none_forced-requires
none_forced-requires c = search all

pub returns-then-not-none_forced : goal.returns-then-not-none_forced
returns-then-not-none_forced c = search all

pub some_goes-requires : goal.some_goes-requires
some_goes-requires c = search all

pub returns : goal.returns
returns c = search all
