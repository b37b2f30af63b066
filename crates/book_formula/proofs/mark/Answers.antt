use Rattle.book_formula.proofs.Ways.{mark_other, mark_unnumbered, mark_numbered}
use borrow.Author.Rules.{rules}
use Rattle.book_formula.proofs.mark.Goals as goal

ruleset all = (rules, mark_other, mark_unnumbered, mark_numbered)

pub returns-then-byte_at-ne112 : goal.returns-then-byte_at-ne112
returns-then-byte_at-ne112 c = search all

pub returns-in_err-number : goal.returns-in_err-number
returns-in_err-number c = search all

pub returns : goal.returns
returns c = search all
