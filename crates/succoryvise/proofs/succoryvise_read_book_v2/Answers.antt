-- `succoryvise::succoryvise_read_book_v2` meets its contract.
use borrow.Author.Rules.{rules}
use Rattle.succoryvise.proofs.Laws.{book_by}
use Rattle.succoryvise.proofs.succoryvise_read_book_v2.Goals as goal

pub returns : goal.returns
returns c = search book_by
