-- How each pair of a graph was first met, noted in a lent area; and the run to a pair, written into a lent list.
use Rattle.std.specs.Prelude.{ℕ, ◌+◌, ◌*◌, ◌≤◌, ◌<◌, ◌≡◌, List, [], ◌∷◌, ◌++◌, length, drop, ltb}
use Rattle.base.specs.Choice.{pick}
use Rattle.base.specs.Bytes.{byte_at, number_at}
use Rattle.first_runs.specs.Numbered.{WayTo}
use Rattle.pair_graph.specs.Graph.{to}
use Rattle.pair_graph.specs.Steps.{action_room, move_at}
use Rattle.std.specs.Prelude.{Option, Some, None}

-- ---- what lies where

-- where the actions begin, behind two bytes for each pair, and where they end
abbrev pub actions_at : ℕ
actions_at = 2000

abbrev pub ways_size : ℕ
ways_size = 3000

-- the pair from which pair j was first met, and the action
abbrev pub from_in : List ℕ → ℕ → ℕ
from_in ways j = number_at 2 ways (2 * j)

abbrev pub action_in : List ℕ → ℕ → ℕ
action_in ways j = byte_at ways (actions_at + j)

-- the number of the step by which it was: 16 for each pair
abbrev pub step_in : List ℕ → ℕ → ℕ
step_in ways j = action_room * from_in ways j + action_in ways j

-- ---- what is noted

-- What is noted of pair j is a step to it, from number k on, and no later than step c.
pub record NotedStep (n actions : ℕ) (graph : List ℕ) (k : ℕ) (ways : List ℕ) (j c : ℕ) : Type 0 where
  pub pair : from_in ways j < n
  pub action : action_in ways j < actions
  pub leads : move_at graph (from_in ways j) (action_in ways j) ≡ to j
  pub from_on : k ≤ step_in ways j
  pub no_later : step_in ways j ≤ c

-- Of every pair that a step from number k on leads to, the first such step is noted.
pub record StepsNoted (n actions : ℕ) (graph : List ℕ) (k : ℕ) (ways : List ℕ) : Type 0 where
  pub says : (i a j : ℕ) → i < n → a < actions → k ≤ action_room * i + a → move_at graph i a ≡ to j
      → NotedStep n actions graph k ways j (action_room * i + a)

-- Every pair but the first is met from a lower one.
pub record MetFromLower (n actions : ℕ) (graph : List ℕ) : Type 0 where
  pub from : ℕ → ℕ
  pub action : ℕ → ℕ
  pub lower : (j : ℕ) → 0 < j → j < n → from j < j
  pub listed : (j : ℕ) → 0 < j → j < n → action j < actions
  pub leads : (j : ℕ) → 0 < j → j < n → move_at graph (from j) (action j) ≡ to j

-- What is noted of every pair but the first comes from a lower one.
pub record FromLower (n : ℕ) (ways : List ℕ) : Type 0 where
  pub room : ways_size ≤ length ways
  pub few : n ≤ 1000
  pub lower : (j : ℕ) → 0 < j → j < n → from_in ways j < j

-- ---- the run

-- The number is the length of the run to pair i.
pub record WayLength (r : ℕ) (ways : List ℕ) (i : ℕ) : Type 0 where
  pub most : r ≤ i
  pub says : (w : List ℕ) → WayTo (from_in ways) (action_in ways) i w → r ≡ length w

-- The run to pair i has been written to the front of the list; later bytes are as they were.
pub record WayWritten (ways : List ℕ) (i : ℕ) (list list_after : List ℕ) : Type 0 where
  pub says : (w : List ℕ) → WayTo (from_in ways) (action_in ways) i w → list_after ≡ w ++ drop (length w) list

-- What is answered of a list for a run: its length, or that the list is too short for it.
unfoldable pub room_for : List ℕ → List ℕ → Option ℕ
room_for list run = pick (ltb (length list) (length run)) (λ _. None) (λ _. Some (length run))

-- what the list holds then: the run and its own later bytes, or what it held
unfoldable pub list_with : List ℕ → List ℕ → List ℕ
list_with list run = pick (ltb (length list) (length run)) (λ _. list) (λ _. run ++ drop (length run) list)

-- The run to pair i with action a behind it, written to the list if there is room for it. How each pair was first met is noted.
pub record RunWritten (r : Option ℕ) (n actions : ℕ) (graph : List ℕ) (i a : ℕ) (ways list list_after : List ℕ) : Type 0 where
  pub noted : StepsNoted n actions graph 0 ways
  pub says : (w : List ℕ) → WayTo (from_in ways) (action_in ways) i w → r ≡ room_for list (w ++ (a ∷ []))
  pub written : (w : List ℕ) → WayTo (from_in ways) (action_in ways) i w → list_after ≡ list_with list (w ++ (a ∷ []))
