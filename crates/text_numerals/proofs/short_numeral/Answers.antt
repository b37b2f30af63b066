use Rattle.text_numerals.proofs.Laws.{digit_from, stops_there, stops_behind, short_fits, short_missing, short_read}
use borrow.Author.Rules.{rules}
use Rattle.text_numerals.proofs.short_numeral.Goals as goal

ruleset all = (rules, digit_from, stops_there, stops_behind, short_fits, short_missing, short_read)

pub returns-then-not-is_digit : goal.returns-then-not-is_digit
returns-then-not-is_digit c = search all

pub two_digits-requires-clause-le_first : goal.two_digits-requires-clause-le_first
two_digits-requires-clause-le_first c = search all

pub overflow_add-result-2 : goal.overflow_add-result-2
overflow_add-result-2 c = search all

pub returns : goal.returns
returns c = search all
