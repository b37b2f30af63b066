-- `succoryvise::succoryvise_why_v2` meets its contract.
use borrow.Author.Rules.{rules}
use Rattle.succoryvise.proofs.Laws.{why_by}
use Rattle.succoryvise.proofs.succoryvise_why_v2.Goals as goal

pub returns : goal.returns
returns c = search why_by
