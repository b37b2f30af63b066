-- `book_alternatives::has_leaf_parts` meets its contract, by the laws of Sides.
use borrow.Author.Rules.{rules}
use Rattle.book_progression.proofs.Nodes.{second_node, until_node}
use Rattle.book_alternatives.proofs.Sides.{leaf_only, leaf_both}
use Rattle.book_alternatives.proofs.has_leaf_parts.Goals as goal

pub code-requires : goal.code-requires
code-requires c = second_node _ _ _ _ c.second.ensures c.code-code.ensures (search rules) (search rules)

pub returns-then-code-ne-UNTIL : goal.returns-then-code-ne-UNTIL
returns-then-code-ne-UNTIL c = search (rules, leaf_only)

pub code-requires-2 : goal.code-requires-2
code-requires-2 c = until_node _ _ _ _ c.first.ensures c.code-code.ensures (search rules) (search rules)

pub returns : goal.returns
returns c = search (rules, leaf_both)
