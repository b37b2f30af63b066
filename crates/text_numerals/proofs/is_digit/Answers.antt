use Rattle.text_numerals.proofs.Laws.{digit_between, digit_below, digit_above}
use borrow.Author.Rules.{rules}
use Rattle.text_numerals.proofs.is_digit.Goals as goal

ruleset all = (rules, digit_between, digit_below, digit_above)

pub returns-in-48-to-57 : goal.returns-in-48-to-57
returns-in-48-to-57 c = search all

pub returns-in_default : goal.returns-in_default
returns-in_default c = search all

pub returns-in_default-2 : goal.returns-in_default-2
returns-in_default-2 c = search all
