use Rattle.book_reader.proofs.Ways.{line_always, line_start, line_none}
use borrow.Author.Rules.{rules}
use Rattle.book_reader.proofs.read_line.Goals as goal

ruleset all = (rules, line_always, line_start, line_none)

pub returns-then-starts_with : goal.returns-then-starts_with
returns-then-starts_with c = search all

pub returns-then-starts_with-2 : goal.returns-then-starts_with-2
returns-then-starts_with-2 c = search all

pub returns : goal.returns
returns c = search all
