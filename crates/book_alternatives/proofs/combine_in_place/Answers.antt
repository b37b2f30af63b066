-- `book_alternatives::combine_in_place` meets its contract, by the laws of InPlace.
use Rattle.book_alternatives.proofs.InPlace.{place_on, place_broken}
use Rattle.book_alternatives.proofs.combine_in_place.Goals as goal

pub returns-then-progress : goal.returns-then-progress
returns-then-progress c = search (place_on)

pub returns : goal.returns
returns c = search (place_broken)
