-- `book_alternatives::combine_cell` meets its contract, by the laws of Combining.
use borrow.Author.Rules.{rules}
use Rattle.book_alternatives.proofs.Combining.{cell_none, cell_combined, cell_ready}
use Rattle.book_alternatives.proofs.combine_cell.Goals as goal

pub returns-in_default : goal.returns-in_default
returns-in_default c = cell_none _ _ _ _ _ _ _ _ _ c.in_default.ensures c.requires.step_ready

pub combine_node-requires : goal.combine_node-requires
combine_node-requires c = cell_ready _ _ _ _ _ c.args.d _ _ _ c.in-Some.r c.in-Some.ensures (search rules) c.requires.step_ready c.requires.k_lt_n

pub returns : goal.returns
returns c = cell_combined _ _ _ _ _ _ _ _ _ c.in-Some.r c.in-Some.ensures _ _ _ c.combine_node.ensures c.requires.k_lt_n c.requires.step_ready
