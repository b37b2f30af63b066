-- `book_alternatives::combine_line` meets its contract, by the laws of Combining.
use borrow.Author.Rules.{rules}
use Rattle.book_alternatives.proofs.Combining.{line_passed, line_passes, line_combined, line_ready}
use Rattle.book_alternatives.proofs.combine_line.Goals as goal

pub returns-then-form-ne-ALWAYS : goal.returns-then-form-ne-ALWAYS
returns-then-form-ne-ALWAYS c = search (rules, line_passed)

pub returns-then-passes : goal.returns-then-passes
returns-then-passes c = search (rules, line_passes)

pub combine_node-requires : goal.combine_node-requires
combine_node-requires c = search (rules, line_ready)

pub returns : goal.returns
returns c = search (line_combined)
