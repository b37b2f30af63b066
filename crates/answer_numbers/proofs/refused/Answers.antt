-- `answer_numbers::refused` meets its contract.
use borrow.Author.Rules.{rules}
use Rattle.answer_numbers.proofs.Laws.{refusal_shown}
use Rattle.answer_numbers.proofs.refused.Goals as goal

ruleset all = (rules, refusal_shown)

pub number-number-requires : goal.number-number-requires
number-number-requires c = search all

pub place-place-requires : goal.place-place-requires
place-place-requires c = search all

pub returns : goal.returns
returns c = search all
