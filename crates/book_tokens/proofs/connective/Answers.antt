use Rattle.book_tokens.proofs.Laws.{scanning_start, scanning_on, connective_found, connective_none}
use borrow.Author.Rules.{rules}
use Rattle.book_tokens.proofs.connective.Goals as goal

ruleset all = (rules, scanning_start, scanning_on, connective_found, connective_none)

pub loop-row-init : goal.loop-row-init
loop-row-init c = search all

pub returns-then-row-b : goal.returns-then-row-b
returns-then-row-b c = search all

pub loop-row-preserved : goal.loop-row-preserved
loop-row-preserved c = scanning_on _ _ _ c.loop-row.invariant c.loop-row-test.true c.if-row-b.false

pub returns : goal.returns
returns c = search all
