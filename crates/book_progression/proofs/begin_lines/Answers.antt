use Rattle.book_progression.proofs.Lines.{begin_first, begin_end, begin_next}
use Rattle.book_progression.proofs.BookHeld.{is_line}
use borrow.Author.Rules.{rules}
use Rattle.book_progression.proofs.begin_lines.Goals as goal

pub loop-at-init : goal.loop-at-init
loop-at-init c = search (rules, begin_first)

pub begin_line-requires-clause-line : goal.begin_line-requires-clause-line
begin_line-requires-clause-line c = search (rules, is_line)

pub loop-at-preserved : goal.loop-at-preserved
loop-at-preserved c = search (rules, begin_next)

pub returns : goal.returns
returns c = search (rules, begin_end)
