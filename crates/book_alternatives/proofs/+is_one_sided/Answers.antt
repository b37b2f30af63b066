-- `book_alternatives::is_one_sided` meets its contract, by the laws of Sides.
use Rattle.book_progression.proofs.Nodes.{first_below, until_below, second_below}
use Rattle.book_alternatives.proofs.Sides.{sides_leaf, sides_only, sides_until, sides_both}
use borrow.Author.Rules.{rules}
use Rattle.book_alternatives.proofs.+is_one_sided.Goals as goal

pub returns-then-code-le-WANTED : goal.returns-then-code-le-WANTED
returns-then-code-le-WANTED t c = search (rules, sides_leaf)

pub is_one_sided-requires : goal.is_one_sided-requires
is_one_sided-requires t c = second_below _ _ _ _ c.second.ensures c.code-code.ensures (search rules) (search rules) t (search rules)

pub is_one_sided-requires-then-code-lt-NO_MORE : goal.is_one_sided-requires-then-code-lt-NO_MORE
is_one_sided-requires-then-code-lt-NO_MORE t c = first_below _ _ _ _ c.first.ensures c.code-code.ensures (search rules) (search rules) (search rules) t (search rules)

pub returns-then-code-lt-NO_MORE : goal.returns-then-code-lt-NO_MORE
returns-then-code-lt-NO_MORE t c = search (rules, sides_both)

pub returns-then-code-ne-UNTIL : goal.returns-then-code-ne-UNTIL
returns-then-code-ne-UNTIL t c = search (rules, sides_only)

pub is_one_sided-requires-2 : goal.is_one_sided-requires-2
is_one_sided-requires-2 t c = until_below _ _ _ _ c.first-2.ensures c.code-code.ensures (search rules) (search rules) t (search rules)

pub returns : goal.returns
returns t c = search (rules, sides_until)
