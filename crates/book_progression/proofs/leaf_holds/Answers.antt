-- `book_progression::leaf_holds` meets its contract, by the laws of Nodes and Holding.
use Rattle.book_progression.proofs.Nodes.{leaf_low, mark_low}
use Rattle.book_progression.proofs.Holding.{holds_constant, holds_mark}
use borrow.Author.Rules.{rules}
use Rattle.book_progression.proofs.leaf_holds.Goals as goal

ruleset all = (rules, leaf_low, mark_low, holds_constant, holds_mark)

pub returns-then-code-le-TRUE : goal.returns-then-code-le-TRUE
returns-then-code-le-TRUE c = search all

pub marked-there-requires : goal.marked-there-requires
marked-there-requires c = search all

pub returns : goal.returns
returns c = search all
