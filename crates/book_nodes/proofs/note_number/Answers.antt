use Rattle.book_nodes.proofs.Area.{number_small, number_noted}
use borrow.Author.Rules.{rules}
use Rattle.book_nodes.proofs.note_number.Goals as goal

pub returns-then-amount-le-MOST_TICKS : goal.returns-then-amount-le-MOST_TICKS
returns-then-amount-le-MOST_TICKS c = search (rules, number_small, number_noted)

pub returns : goal.returns
returns c = search (rules, number_small, number_noted)
