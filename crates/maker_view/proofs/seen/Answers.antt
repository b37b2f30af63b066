-- `maker_view::seen` meets its contract.
use Rattle.maker_view.proofs.Looks.{more_fits, target_there, shows_none, shows_class}
use borrow.Author.Rules.{rules}
use Rattle.maker_view.proofs.seen.Goals as goal

ruleset all = (rules, more_fits, target_there, shows_none, shows_class)

pub allowed-requires : goal.allowed-requires
allowed-requires c = search all

pub enum_known-j : goal.enum_known-j
enum_known-j c = search all

pub enum_told-1 : goal.enum_told-1
enum_told-1 c = search all

pub returns-in_default : goal.returns-in_default
returns-in_default c = search all

pub class-requires : goal.class-requires
class-requires c = search all

pub overflow_add-result : goal.overflow_add-result
overflow_add-result c = search all

pub returns : goal.returns
returns c = search all
