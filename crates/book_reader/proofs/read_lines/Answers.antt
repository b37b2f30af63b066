use Rattle.book_reader.proofs.Ways.{book_long}
use borrow.Author.Rules.{rules}
use Rattle.book_reader.proofs.read_lines.Goals as goal

ruleset all = (rules, book_long)

pub returns-then-text-gt-MOST_BYTES : goal.returns-then-text-gt-MOST_BYTES
returns-then-text-gt-MOST_BYTES c = search all
