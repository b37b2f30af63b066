-- `book_alternatives::is_two_sided` meets its contract, by the laws of Widths.
use borrow.Author.Rules.{rules}
use Rattle.book_progression.proofs.Nodes.{second_node}
use Rattle.book_alternatives.proofs.Widths.{sided_other, sided_or}
use Rattle.book_alternatives.proofs.is_two_sided.Goals as goal

pub is_timed-requires : goal.is_timed-requires
is_timed-requires c = second_node _ _ _ _ c.second.ensures c.code.ensures (search rules) (search rules)

pub returns-then-code-eq-OR_FIRST_TIMED : goal.returns-then-code-eq-OR_FIRST_TIMED
returns-then-code-eq-OR_FIRST_TIMED c = search (rules, sided_or)

pub returns-else-code-eq-OR_FIRST_TIMED : goal.returns-else-code-eq-OR_FIRST_TIMED
returns-else-code-eq-OR_FIRST_TIMED c = search (rules, sided_other)
