use borrow.Author.Rules.{rules}
use Rattle.book_alternatives.proofs.Copying.{copying_start, copying_next, copying_over, copying_end}
use Rattle.book_alternatives.proofs.copy_combined.Goals as goal

ruleset all = (rules, copying_start, copying_next, copying_over, copying_end)

pub returns-then-next-gt16 : goal.returns-then-next-gt16
returns-then-next-gt16 c = search all

pub loop-k-init : goal.loop-k-init
loop-k-init c = search all

pub loop-k-preserved : goal.loop-k-preserved
loop-k-preserved c = search all

pub returns : goal.returns
returns c = search all
