use Rattle.book_reader.proofs.Ways.{outcome_short, outcome_whole}
use borrow.Author.Rules.{rules}
use Rattle.book_reader.proofs.read_book.Goals as goal

ruleset all = (rules, outcome_short, outcome_whole)

pub returns-then-area-lt-BOOK_AREA : goal.returns-then-area-lt-BOOK_AREA
returns-then-area-lt-BOOK_AREA c = search all

pub returns : goal.returns
returns c = search all
