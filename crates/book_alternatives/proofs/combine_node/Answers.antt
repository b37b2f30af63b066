-- `book_alternatives::combine_node` meets its contract, by the laws of Offering, Combining and InPlace.
use borrow.Author.Rules.{rules}
use Rattle.book_alternatives.proofs.Combining.{node_passes}
use Rattle.book_alternatives.proofs.InPlace.{node_in_place}
use Rattle.book_alternatives.proofs.combine_node.Goals as goal

pub returns-then-gives_one : goal.returns-then-gives_one
returns-then-gives_one c = search (rules, node_in_place)

pub returns-in-Passes : goal.returns-in-Passes
returns-in-Passes c = search (rules, node_passes)
