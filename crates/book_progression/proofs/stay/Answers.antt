-- `book_progression::stay` meets its contract, by the laws of Putting.
use borrow.Author.Rules.{rules}
use Rattle.std.proofs.Common.{arith}
use Rattle.book_progression.proofs.Putting.{stay_off, stay_on}
use Rattle.book_progression.proofs.stay.Goals as goal

pub returns-then-lt : goal.returns-then-lt
returns-then-lt c = stay_off _ _ _ _ _ (grind (arith, c.if-lt.ensures))

pub returns : goal.returns
returns c = stay_on _ _ _ _ _ _ (grind (arith, c.if-lt.ensures)) (search rules)
