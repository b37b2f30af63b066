use Rattle.text_numerals.proofs.Laws.{second_digit, two_spelled, one_spelled}
use borrow.Author.Rules.{rules}
use Rattle.text_numerals.proofs.two_digits.Goals as goal

ruleset all = (rules, second_digit, two_spelled, one_spelled)

pub overflow_sub-second : goal.overflow_sub-second
overflow_sub-second c = search all

pub returns-then-more-eq1 : goal.returns-then-more-eq1
returns-then-more-eq1 c = search all

pub returns-else-more-eq1 : goal.returns-else-more-eq1
returns-else-more-eq1 c = search all
