-- `succoryvise::succoryvise_make_v2` meets its contract.
use borrow.Author.Rules.{rules}
use Rattle.succoryvise.proofs.Laws.{make_by}
use Rattle.succoryvise.proofs.succoryvise_make_v2.Goals as goal

pub returns : goal.returns
returns c = search make_by
