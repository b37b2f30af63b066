use Rattle.book_progression.proofs.Stepping.{nodes_end, nodes_broken, nodes_on}
use borrow.Author.Rules.{rules}
use Rattle.book_progression.proofs.progress_nodes.Goals as goal

pub returns-then-not-progress_cell : goal.returns-then-not-progress_cell
returns-then-not-progress_cell c = search (rules, nodes_broken)

pub loop-k-preserved : goal.loop-k-preserved
loop-k-preserved c = search (rules, nodes_on)

pub returns : goal.returns
returns c = search (rules, nodes_end)
