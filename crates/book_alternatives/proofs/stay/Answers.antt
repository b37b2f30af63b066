-- `book_alternatives::stay` meets its contract, by the laws of Taking.
use borrow.Author.Rules.{rules}
use Rattle.std.proofs.Common.{◌≤◌, arith}
use Rattle.book_alternatives.proofs.Taking.{stay_other, stay_late, stay_put, stay_on}
use Rattle.book_alternatives.proofs.stay.Goals as goal

pub returns-then-code-lt-ALWAYS : goal.returns-then-code-lt-ALWAYS
returns-then-code-lt-ALWAYS c = search (rules, stay_other)

pub returns-then-lt : goal.returns-then-lt
returns-then-lt c = stay_late _ _ _ _ _ _ _ c.requires _ (grind (arith, c.if-lt.ensures))

pub returns-then-one-eq1 : goal.returns-then-one-eq1
returns-then-one-eq1 c = let early : c.args.d.0 ≤ c.args.r.0 = grind (arith, c.if-lt.ensures) in search (rules, stay_put)

pub returns : goal.returns
returns c = let early : c.args.d.0 ≤ c.args.r.0 = grind (arith, c.if-lt.ensures) in search (rules, stay_on)
