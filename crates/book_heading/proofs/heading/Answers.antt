use Rattle.book_heading.proofs.Ways.{headed_ticks, headed_plain}
use borrow.Author.Rules.{rules}
use Rattle.book_heading.proofs.heading.Goals as goal

ruleset all = (rules, headed_ticks, headed_plain)

pub returns-then-has_ticks : goal.returns-then-has_ticks
returns-then-has_ticks c = search all

pub returns : goal.returns
returns c = search all
