use Rattle.text_numerals.proofs.Laws.{spelled_none, spelled_some}
use borrow.Author.Rules.{rules}
use Rattle.text_numerals.proofs.spelled.Goals as goal

ruleset all = (rules, spelled_none, spelled_some)

pub returns-then-n-eq0 : goal.returns-then-n-eq0
returns-then-n-eq0 c = search all

pub returns-else-n-eq0 : goal.returns-else-n-eq0
returns-else-n-eq0 c = search all
