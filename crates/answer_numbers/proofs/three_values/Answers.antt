-- `answer_numbers::three_values` meets its contract.
use borrow.Author.Rules.{rules}
use Rattle.answer_numbers.specs.Shown.{shown}
use Rattle.answer_numbers.proofs.three_values.Goals as goal

pub returns : goal.returns
unfolding shown
returns c = search rules
