use Rattle.book_progression.proofs.Lines.{lines_first, lines_end, lines_broken, lines_next}
use Rattle.book_progression.proofs.BookHeld.{is_line}
use borrow.Author.Rules.{rules}
use Rattle.book_progression.proofs.progress_lines.Goals as goal

pub loop-i-init : goal.loop-i-init
loop-i-init c = search (rules, lines_first)

pub progress_line-requires-clause-line : goal.progress_line-requires-clause-line
progress_line-requires-clause-line c = search (rules, is_line)

pub returns-then-not-progress_line : goal.returns-then-not-progress_line
returns-then-not-progress_line c = search (rules, lines_broken)

pub loop-i-preserved : goal.loop-i-preserved
loop-i-preserved c = search (rules, lines_next)

pub returns : goal.returns
returns c = search (rules, lines_end)
