-- `book_alternatives::combine_general` meets its contract, by the laws of Combining.
use Rattle.book_alternatives.proofs.Combining.{node_combined}
use Rattle.book_alternatives.proofs.combine_general.Goals as goal

pub returns : goal.returns
returns c = search (node_combined)
