-- The graph as bytes in a lent area: for each of 1,000 pairs and 16 actions a move in two bytes, and behind the moves each pair's state.
use Rattle.std.specs.Prelude.{ℕ, zero, suc, ◌+◌, ◌*◌, ◌≤◌, ◌<◌, ◌≡◌, Bool, true, false, List, length, eqb}
use Rattle.std.specs.Prelude.{Option, None, Some}
use Rattle.base.specs.Bytes.{byte_at, number_at}
use Rattle.logic.specs.Tower.{Tower}
use Rattle.pair_graph.specs.Graph.{Move, not_enabled, broken, to, Graph, allowed_to}

-- ---- where things lie

-- room for so many pairs, and for 16 actions from each
abbrev pub pair_room : ℕ
pair_room = 1000

abbrev pub action_room : ℕ
action_room = 16

-- where the move of action a from pair i is written
unfoldable pub cell : ℕ → ℕ → ℕ
cell i a = 2 * (action_room * i + a)

-- where the states begin, and where the graph ends
abbrev pub states_at : ℕ
states_at = 32000

abbrev pub graph_size : ℕ
graph_size = 34000

-- ---- what is read

-- 0 for not enabled, 1 for a broken step, and the number of a pair plus 2
unfoldable pub move_of : ℕ → Move
move_of zero = not_enabled
move_of (suc zero) = broken
move_of (suc (suc j)) = to j

unfoldable pub move_at : List ℕ → ℕ → ℕ → Move
move_at area i a = move_of (number_at 2 area (cell i a))

-- the state of pair i
abbrev pub state_in : List ℕ → ℕ → ℕ
state_in area i = number_at 2 area (states_at + 2 * i)

-- pair i is safe: its flag is 1
unfoldable pub safe_in : List ℕ → ℕ → Bool
safe_in flags i = eqb (byte_at flags i) 1

-- the class of pair i
abbrev pub class_in : List ℕ → ℕ → ℕ
class_in classes i = number_at 2 classes (2 * i)

-- the action is enabled
unfoldable pub is_enabled : Move → Bool
is_enabled not_enabled = false
is_enabled broken = true
is_enabled (to j) = true

-- the pair that action a leads to from pair i, if it is allowed there: if it leads to a safe pair
unfoldable pub led_to : List ℕ → List ℕ → ℕ → ℕ → Option ℕ
led_to area flags i a = allowed_to (safe_in flags) (move_at area i a)

-- ---- the graph

-- The graph of n pairs that the area holds, with so many actions of these kinds.
abbrev pub graph_with : ℕ → ℕ → (ℕ → ℕ) → List ℕ → Graph
graph_with n actions kind area = record { pairs = n; actions = actions; state = state_in area; kind = kind; move = move_at area }

-- The same with the actions and kinds of a tower.
unfoldable pub graph_of : Tower → ℕ → List ℕ → Graph
graph_of tower n area = graph_with n tower.actions tower.kind area

-- The area holds a graph of n pairs with so many actions: there is room for it, and every move leads to one of the pairs.
pub record HoldsGraph (n actions : ℕ) (area : List ℕ) : Type 0 where
  pub room : graph_size ≤ length area
  pub pairs_most : n ≤ pair_room
  pub actions_most : actions ≤ action_room
  pub targets : (i a j : ℕ) → i < n → a < actions → move_at area i a ≡ to j → j < n

-- The same with a flag for each pair.
pub record FlaggedGraph (n actions : ℕ) (area flags : List ℕ) : Type 0 where
  pub graph : HoldsGraph n actions area
  pub flagged : n ≤ length flags
