use Rattle.book_alternatives.proofs.Combining.{nodes_end, nodes_on}
use Rattle.book_alternatives.proofs.combine_nodes.Goals as goal

pub loop-k-preserved : goal.loop-k-preserved
loop-k-preserved c = search (nodes_on)

pub returns : goal.returns
returns c = search (nodes_end)
