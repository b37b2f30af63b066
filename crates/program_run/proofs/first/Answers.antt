-- `program_run::first` meets its contract.
use borrow.Author.Rules.{rules}
use Rattle.program_run.proofs.Walks.{walk_first}
use Rattle.program_run.proofs.first.Goals as goal

pub returns : goal.returns
returns c = walk_first _ _ _ _ (search rules) (search rules)
