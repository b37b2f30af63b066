use Rattle.book_heading.proofs.Ways.{line_missing, line_unended, line_over, line_read}
use borrow.Author.Rules.{rules}
use Rattle.book_heading.proofs.ticks_line.Goals as goal

ruleset all = (rules, line_unended, line_over, line_read)

pub returns-in_err-number : goal.returns-in_err-number
returns-in_err-number c =
    line_missing _ _ c.skip-at.ensures _ c.numeral.ensures _ _ c.from_residual.ensures.1 c.in_err-number.ensures.value c.in_err-number.ensures.ok_part

pub returns-then-byte_at-ne10 : goal.returns-then-byte_at-ne10
returns-then-byte_at-ne10 c = search all

pub returns-then-number-gt-MOST_TICKS : goal.returns-then-number-gt-MOST_TICKS
returns-then-number-gt-MOST_TICKS c = search all

pub returns : goal.returns
returns c = search all
