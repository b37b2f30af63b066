use Rattle.book_formula.proofs.Ways.{formula_read}
use borrow.Author.Rules.{rules}
use Rattle.book_formula.proofs.formula.Goals as goal

ruleset all = (rules, formula_read)

pub returns : goal.returns
returns c = search all
