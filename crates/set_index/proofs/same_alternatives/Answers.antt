use borrow.Author.Rules.{rules}
use borrow.Author.Tests.{not-true, not-false}
use Rattle.set_index.proofs.Ways.{alternatives_start, alternatives_more, alternatives_differ, alternatives_end}
use Rattle.set_index.proofs.same_alternatives.Goals as goal

ruleset all = (rules, not-true, not-false, alternatives_start, alternatives_more, alternatives_differ, alternatives_end)

pub returns-then-not-same_alternative : goal.returns-then-not-same_alternative
returns-then-not-same_alternative c = search all

pub loop-k-preserved : goal.loop-k-preserved
loop-k-preserved c = search all

pub returns : goal.returns
returns c = search all
