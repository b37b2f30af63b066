-- `book_alternatives::is_timed` meets its contract, by the laws of Timing.
use Rattle.book_progression.proofs.Nodes.{first_below, second_below}
use Rattle.book_alternatives.proofs.Timing.{timed_leaf, timed_node, timed_first, timed_second}
use borrow.Author.Rules.{rules}
use Rattle.book_alternatives.proofs.+is_timed.Goals as goal

pub returns-then-code-le-WANTED : goal.returns-then-code-le-WANTED
returns-then-code-le-WANTED t c = search (rules, timed_leaf)

pub returns-then-code-ge-NO_MORE : goal.returns-then-code-ge-NO_MORE
returns-then-code-ge-NO_MORE t c = search (rules, timed_node)

pub is_timed-requires : goal.is_timed-requires
is_timed-requires t c = first_below _ _ _ _ c.first.ensures c.code-code.ensures (search rules) (search rules) (search rules) t (search rules)

pub returns-then-is_timed : goal.returns-then-is_timed
returns-then-is_timed t c = search (rules, timed_first)

pub is_timed-requires-else-is_timed : goal.is_timed-requires-else-is_timed
is_timed-requires-else-is_timed t c = second_below _ _ _ _ c.second.ensures c.code-code.ensures (search rules) (search rules) t (search rules)

pub returns-else-is_timed : goal.returns-else-is_timed
returns-else-is_timed t c = search (rules, timed_second)
