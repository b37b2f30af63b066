-- `program_listing::log_answer` meets its contract.
use borrow.Author.Rules.{rules}
use Rattle.base.specs.Text.{ascii}
use Rattle.program_listing.specs.Lines.{log_line}
use Rattle.program_listing.proofs.Ways.{log_way}
use Rattle.program_listing.proofs.log_answer.Goals as goal

ruleset all = (rules, log_way)

pub enum_known-answer : goal.enum_known-answer
unfolding log_line ascii
enum_known-answer c = search all

pub returns-in-Err : goal.returns-in-Err
unfolding log_line ascii
returns-in-Err c = search all

pub returns-in-Ok : goal.returns-in-Ok
unfolding log_line ascii
returns-in-Ok c = search all
