-- `book_alternatives::behind` meets its contract, by the laws of Joining.
use borrow.Author.Rules.{rules}
use Rattle.book_alternatives.proofs.Joining.{nodes_step, lines_step, behind_done}
use Rattle.book_alternatives.proofs.behind.Goals as goal

pub combine_nodes-left-requires-clause-step_ready : goal.combine_nodes-left-requires-clause-step_ready
combine_nodes-left-requires-clause-step_ready c = search (rules, nodes_step)

pub combine_lines-requires-clause-step_ready : goal.combine_lines-requires-clause-step_ready
combine_lines-requires-clause-step_ready c = lines_step _ _ _ _ _ _ c.requires _ _ c.combine_none.ensures _ _ _ _ c.combine_nodes-left.ensures

pub returns : goal.returns
returns c = behind_done _ _ _ _ _ _ c.requires _ _ c.combine_none.ensures _ _ _ _ c.combine_nodes-left.ensures _ _ _ c.combine_lines.ensures
