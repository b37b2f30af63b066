-- `succoryvise::succoryvise_check_v2` meets its contract.
use borrow.Author.Rules.{rules}
use Rattle.succoryvise.proofs.Laws.{check_by}
use Rattle.succoryvise.proofs.succoryvise_check_v2.Goals as goal

pub returns : goal.returns
returns c = search check_by
