-- `file_layout::in_range` meets its contract.
use borrow.Author.Rules.{rules}
use Rattle.file_layout.proofs.Places.{range_high, range_low}
use Rattle.file_layout.proofs.in_range.Goals as goal

ruleset all = (rules, range_high, range_low)

pub returns-then-n-ge1 : goal.returns-then-n-ge1
returns-then-n-ge1 c = search all

pub returns-else-n-ge1 : goal.returns-else-n-ge1
returns-else-n-ge1 c = search all
