use Rattle.book_tokens.proofs.Laws.{comparison_below, comparison_above, comparison_none}
use borrow.Author.Rules.{rules}
use Rattle.book_tokens.proofs.comparison.Goals as goal

ruleset all = (rules, comparison_below, comparison_above, comparison_none)

pub returns-in-60 : goal.returns-in-60
returns-in-60 c = search all

pub returns-in-62 : goal.returns-in-62
returns-in-62 c = search all

pub returns-in_default : goal.returns-in_default
returns-in_default c = search all
