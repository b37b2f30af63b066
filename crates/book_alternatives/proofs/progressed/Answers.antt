use borrow.Author.Rules.{rules}
use Rattle.book_alternatives.proofs.Joining.{joining_first, joining_next, joining_end}
use Rattle.book_alternatives.proofs.progressed.Goals as goal

pub loop-i-init : goal.loop-i-init
loop-i-init c = search (rules, joining_first)

pub loop-i-preserved : goal.loop-i-preserved
loop-i-preserved c = search (rules, joining_next)

pub returns : goal.returns
returns c = search (joining_end)
