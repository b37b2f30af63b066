-- The tower was read.
use borrow.Author.Rules.{rules}
use Rattle.file_tower.proofs.Laws.{fit_of}
use Rattle.pair_count.proofs.pairs.Goals as goal

pub of_book-requires : goal.of_book-requires
of_book-requires c = record { fit_tower = search fit_of; in_bounds = search rules }
