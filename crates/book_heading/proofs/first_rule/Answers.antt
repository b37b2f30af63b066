use Rattle.book_heading.proofs.Ways.{first_one, first_zero}
use borrow.Author.Rules.{rules}
use Rattle.book_heading.proofs.first_rule.Goals as goal

ruleset all = (rules, first_one, first_zero)

pub returns-then-has_ticks : goal.returns-then-has_ticks
returns-then-has_ticks c = search all

pub returns-else-has_ticks : goal.returns-else-has_ticks
returns-else-has_ticks c = search all
