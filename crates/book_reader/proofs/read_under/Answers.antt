use Rattle.book_reader.proofs.Ways.{under_over, under_book}
use borrow.Author.Rules.{rules}
use Rattle.book_reader.proofs.read_under.Goals as goal

ruleset all = (rules, under_over, under_book)

pub returns-then-marks-gt-MOST_MARKS : goal.returns-then-marks-gt-MOST_MARKS
returns-then-marks-gt-MOST_MARKS c = search all

pub returns : goal.returns
returns c = search all
