-- `log_course::first` meets its contract.
use borrow.Author.Rules.{rules}
use Rattle.outcome.specs.Log.{first_course}
use Rattle.log_course.proofs.first.Goals as goal

pub returns : goal.returns
unfolding first_course
returns c = search rules
