use borrow.Author.Rules.{rules}
use Rattle.book_progression.proofs.BookHeld.{is_line}
use Rattle.book_alternatives.proofs.Combining.{lines_first, lines_end, lines_next, lines_ready}
use Rattle.book_alternatives.proofs.combine_lines.Goals as goal

pub loop-i-init : goal.loop-i-init
loop-i-init c = search (rules, lines_first)

pub combine_line-left-requires-clause-line : goal.combine_line-left-requires-clause-line
combine_line-left-requires-clause-line c = search (rules, is_line)

pub combine_line-left-requires-clause-step_ready : goal.combine_line-left-requires-clause-step_ready
combine_line-left-requires-clause-step_ready c = search (rules, lines_ready)

pub loop-i-preserved : goal.loop-i-preserved
loop-i-preserved c = search (lines_next)

pub returns : goal.returns
returns c = search (lines_end)
