use Rattle.text_numerals.proofs.Laws.{digit_counted}
use borrow.Author.Rules.{rules}
use Rattle.text_numerals.proofs.digit_count.Goals as goal

pub returns : goal.returns
returns c = search (rules, digit_counted)
