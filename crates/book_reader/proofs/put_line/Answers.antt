use Rattle.book_reader.proofs.Ways.{line_put}
use borrow.Author.Rules.{rules}
use Rattle.book_reader.proofs.put_line.Goals as goal

ruleset all = (rules, line_put)

pub returns : goal.returns
returns c = search all
