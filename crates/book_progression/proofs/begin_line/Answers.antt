-- `book_progression::begin_line` meets its contract, by the laws of Lines.
use Rattle.book_progression.proofs.Lines.{line_waits, line_begins, line_node, line_ready}
use borrow.Author.Rules.{rules}
use Rattle.book_progression.proofs.begin_line.Goals as goal

pub returns-then-form-eq-ALWAYS : goal.returns-then-form-eq-ALWAYS
returns-then-form-eq-ALWAYS c = search (rules, line_waits)

pub fresh-requires : goal.fresh-requires
fresh-requires c = search (rules, line_node)

pub put-requires : goal.put-requires
put-requires c = search (rules, line_ready)

pub returns : goal.returns
returns c = search (rules, line_begins)
