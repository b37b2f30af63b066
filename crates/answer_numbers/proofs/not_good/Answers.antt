-- `answer_numbers::not_good` meets its contract.
use borrow.Author.Rules.{rules}
use Rattle.answer_numbers.proofs.Laws.{reason_shown}
use Rattle.answer_numbers.proofs.not_good.Goals as goal

ruleset all = (rules, reason_shown)

pub letter-letter-requires : goal.letter-letter-requires
letter-letter-requires c = search all

pub row-row-requires : goal.row-row-requires
row-row-requires c = search all

pub returns : goal.returns
returns c = search all
