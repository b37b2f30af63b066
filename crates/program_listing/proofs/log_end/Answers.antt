-- `program_listing::log_end` meets its contract.
use borrow.Author.Rules.{rules}
use Rattle.base.specs.Text.{ascii}
use Rattle.program_listing.proofs.Ways.{end_way}
use Rattle.program_listing.proofs.log_end.Goals as goal

ruleset all = (rules, end_way)

pub named-requires : goal.named-requires
unfolding ascii
named-requires c = search all

pub named-requires-in-Line : goal.named-requires-in-Line
unfolding ascii
named-requires-in-Line c = search all

pub returns-in-Row : goal.returns-in-Row
unfolding ascii
returns-in-Row c = search all

pub returns-in-Line : goal.returns-in-Line
unfolding ascii
returns-in-Line c = search all
