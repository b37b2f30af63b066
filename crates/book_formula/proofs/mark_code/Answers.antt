use Rattle.book_formula.proofs.Ways.{code_with, code_without}
use borrow.Author.Rules.{rules}
use Rattle.book_formula.proofs.mark_code.Goals as goal

ruleset all = (rules, code_with, code_without)

pub returns-then-wanted : goal.returns-then-wanted
returns-then-wanted c = search all

pub returns-else-wanted : goal.returns-else-wanted
returns-else-wanted c = search all
