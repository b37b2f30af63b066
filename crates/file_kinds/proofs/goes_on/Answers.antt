-- `file_kinds::goes_on` meets its contract.
use borrow.Author.Rules.{rules}
use Rattle.file_kinds.proofs.Ways.{ours_goes, sure_goes}
use Rattle.file_kinds.proofs.goes_on.Goals as goal

pub returns-then-kind-eq-OURS : goal.returns-then-kind-eq-OURS
returns-then-kind-eq-OURS c = search ours_goes

pub returns : goal.returns
returns c = sure_goes _ (search rules)
