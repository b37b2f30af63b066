use Rattle.book_formula.proofs.Ways.{code_always, code_other}
use borrow.Author.Rules.{rules}
use Rattle.book_formula.proofs.one_code.Goals as goal

ruleset all = (rules, code_always, code_other)

pub returns-then-b-eq65 : goal.returns-then-b-eq65
returns-then-b-eq65 c = search all

pub returns-else-b-eq65 : goal.returns-else-b-eq65
returns-else-b-eq65 c = search all
