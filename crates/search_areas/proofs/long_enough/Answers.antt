-- `search_areas::long_enough` meets its contract.
use borrow.Author.Rules.{rules}
use Rattle.search_areas.proofs.Laws.{short_nodes, short_pairs, short_index, short_graph, short_sets, room_decides}
use Rattle.search_areas.proofs.long_enough.Goals as goal

pub returns-then-nodes-lt-NODES_AREA : goal.returns-then-nodes-lt-NODES_AREA
returns-then-nodes-lt-NODES_AREA c = short_nodes _ _ _ _ _ _ (search rules)

pub returns-then-pairs-lt-PAIRS_AREA : goal.returns-then-pairs-lt-PAIRS_AREA
returns-then-pairs-lt-PAIRS_AREA c = short_pairs _ _ _ _ _ _ (search rules)

pub returns-then-index-lt-INDEX_AREA : goal.returns-then-index-lt-INDEX_AREA
returns-then-index-lt-INDEX_AREA c = short_index _ _ _ _ _ _ (search rules)

pub returns-then-graph-lt-GRAPH_AREA : goal.returns-then-graph-lt-GRAPH_AREA
returns-then-graph-lt-GRAPH_AREA c = short_graph _ _ _ _ _ _ (search rules)

pub returns-then-sets-lt-SETS_AREA : goal.returns-then-sets-lt-SETS_AREA
returns-then-sets-lt-SETS_AREA c = short_sets _ _ _ _ _ _ (search rules)

pub returns : goal.returns
returns c = room_decides _ _ _ _ _ _ (search rules) (search rules) (search rules) (search rules) (search rules)
