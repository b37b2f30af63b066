-- `within`: it comes soon enough.
use borrow.Author.Rules.{rules}
use Rattle.logic.specs.Time.{at_most}
use Rattle.why_judging.proofs.within.Goals as goal

pub returns : goal.returns
unfolding at_most
returns c = search rules
