use Rattle.book_tokens.proofs.Laws.{bound_none, bound_compared, bound_optional}
use borrow.Author.Rules.{rules}
use Rattle.book_tokens.proofs.bound.Goals as goal

ruleset all = (rules, bound_none, bound_compared, bound_optional)

pub returns-in-NoBound : goal.returns-in-NoBound
returns-in-NoBound c = search all

pub returns-in-Compared : goal.returns-in-Compared
returns-in-Compared c = search all

pub returns-in-Optional : goal.returns-in-Optional
returns-in-Optional c = search all
