-- `book_progression::holds` meets its contract, by the laws of Nodes and Holding.
use Rattle.book_progression.proofs.Nodes.{first_below, second_below}
use Rattle.book_progression.proofs.Holding.{holds_timed, holds_and_not, holds_and, holds_or_first, holds_or}
use borrow.Author.Rules.{rules}
use Rattle.book_progression.proofs.+holds.Goals as goal

pub returns-then-code-ge-NO_MORE : goal.returns-then-code-ge-NO_MORE
returns-then-code-ge-NO_MORE t c = search (rules, holds_timed)

pub holds-left-requires : goal.holds-left-requires
holds-left-requires t c = first_below _ _ _ _ c.first.ensures c.code-code.ensures (search rules) (search rules) (search rules) t (search rules)

pub returns-else-left : goal.returns-else-left
returns-else-left t c = search (rules, holds_and_not)

pub holds-requires : goal.holds-requires
holds-requires t c = second_below _ _ _ _ c.second.ensures c.code-code.ensures (search rules) (search rules) t (search rules)

pub returns-then-left : goal.returns-then-left
returns-then-left t c = search (rules, holds_and)

pub returns-then-left-2 : goal.returns-then-left-2
returns-then-left-2 t c = search (rules, holds_or_first)

pub holds-requires-else-left-2 : goal.holds-requires-else-left-2
holds-requires-else-left-2 t c = second_below _ _ _ _ c.second-else-left-2.ensures c.code-code.ensures (search rules) (search rules) t (search rules)

pub returns-else-left-2 : goal.returns-else-left-2
returns-else-left-2 t c = search (rules, holds_or)
