-- The table of a graph of pairs with its safe pairs and their classes: rows are classes, numbered as first met from pair 0 on, rows in order,
-- actions ascending.
use Rattle.std.specs.Prelude.{ℕ, Bool, List, map, eqb}
use Rattle.std.specs.Prelude.{Option, None, Some}
use Rattle.base.specs.Lists.{below, present, place_of}
use Rattle.base.specs.Search.{search_from, once}
use Rattle.logic.specs.Tables.{Step, Row, Table}
use Rattle.pair_graph.specs.Graph.{Graph, allowed_to}

module _ (graph : Graph) (safe : ℕ → Bool) (class : ℕ → ℕ) where
  -- the pair that an allowed action leads to
  unfoldable pub allowed : ℕ → ℕ → Option ℕ
  allowed i a = allowed_to safe (graph.move i a)

  -- the pairs that allowed actions lead to, actions ascending
  unfoldable pub allowed_all : ℕ → List ℕ
  allowed_all i = present (map (allowed i) (below graph.actions))

  unfoldable pub same_class : ℕ → ℕ → Bool
  same_class i j = eqb (class i) (class j)

  -- one pair for each row, in the order of the rows
  unfoldable pub row_order : List ℕ
  row_order = search_from same_class allowed_all once graph.pairs 0

  -- the step of action a, if it is allowed
  unfoldable pub graph_step : ℕ → Option ℕ → Option Step
  graph_step a None = None
  graph_step a (Some j) = Some (record { action = a; target = place_of (same_class j) row_order })

  unfoldable pub graph_row : ℕ → Row
  graph_row i = record { state = graph.state i; steps = present (map (λ a. graph_step a (allowed i a)) (below graph.actions)) }

  unfoldable pub graph_table : Table
  graph_table = map graph_row row_order
