-- `answer_numbers::two_values` meets its contract.
use borrow.Author.Rules.{rules}
use Rattle.answer_numbers.specs.Shown.{shown}
use Rattle.answer_numbers.proofs.two_values.Goals as goal

pub returns : goal.returns
unfolding shown
returns c = search rules
