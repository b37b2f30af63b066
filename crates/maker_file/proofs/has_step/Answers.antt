-- `maker_file::has_step` meets its contract.
use borrow.Author.Rules.{rules}
use Rattle.maker_file.proofs.Ways.{no_step, a_step}
use Rattle.maker_file.proofs.has_step.Goals as goal

ruleset all = (rules, no_step, a_step)

pub allowed-requires : goal.allowed-requires
allowed-requires c = search all

pub enum_told-1 : goal.enum_told-1
enum_told-1 c = search all

pub enum_told-in_default : goal.enum_told-in_default
enum_told-in_default c = search all

pub returns-in_default : goal.returns-in_default
returns-in_default c = search all

pub returns : goal.returns
returns c = search all
