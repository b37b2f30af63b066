-- The lists of predecessors: for each pair the cells whose moves lead to it, in a lent area. Cell 16 i + a is that of action a from pair i.
use Rattle.std.specs.Prelude.{ℕ, ◌*◌, ◌%◌, ◌<◌, ◌≡◌, List}
use Rattle.base.specs.Bytes.{number_at}
use Rattle.area_chains.specs.Chains.{Chained, head_in, link_in}
use Rattle.pair_graph.specs.Graph.{to}
use Rattle.pair_graph.specs.Steps.{action_room, move_of}

-- where the heads of the lists begin, one for each pair; what lies before them is the phase's own
abbrev pub heads_at : ℕ
heads_at = 1000

-- where the links begin, one for each cell
abbrev pub links_at : ℕ
links_at = 3000

-- where the links end
abbrev pub lists_end : ℕ
lists_end = 35000

-- Cell c is that of one of the actions, and its move leads to pair j.
pub record CellTo (actions : ℕ) (graph : List ℕ) (c j : ℕ) : Type 0 where
  pub action : c % action_room < actions
  pub leads : move_of (number_at 2 graph (2 * c)) ≡ to j

-- The list of each of the n pairs has the cells below k that lead to it.
pub record Listed (n actions : ℕ) (graph : List ℕ) (k : ℕ) (area : List ℕ) : Type 0 where
  pub chained : Chained (CellTo actions graph) n (head_in heads_at area) (link_in links_at area) k
