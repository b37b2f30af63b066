-- `succoryvise::succoryvise_follow_v2` meets its contract.
use borrow.Author.Rules.{rules}
use Rattle.base.specs.Answers.{follow_said}
use Rattle.succoryvise.proofs.Laws.{shown_of}
use Rattle.succoryvise.proofs.succoryvise_follow_v2.Goals as goal

pub returns : goal.returns
returns c = search (shown_of follow_said)
