use Rattle.book_tokens.proofs.Laws.{skip_done, skip_on, skip_all}
use borrow.Author.Rules.{rules}
use Rattle.book_tokens.proofs.skip.Goals as goal

ruleset all = (rules, skip_done, skip_on, skip_all)

pub returns-then-s-next-ne32 : goal.returns-then-s-next-ne32
returns-then-s-next-ne32 c = search all

pub loop-next-preserved : goal.loop-next-preserved
loop-next-preserved c = search all

pub returns : goal.returns
returns c = search all
