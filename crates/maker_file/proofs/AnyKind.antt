-- The kinds of actions do not matter to the table of a graph.
use Prim.Native.Nat.{ℕ}
use mathlib.Core.Path.{◌≡◌, refl, ap, fun_ext}
use mathlib.Core.Bool.{Bool}
use Rattle.std.specs.Prelude.{Option, None, Some}
use mathlib.Core.List.{List, map}
use Rattle.base.specs.Lists.{below, present}
use Rattle.logic.specs.Tower.{Tower}
use Rattle.logic.specs.Tables.{Step, Row}
use Rattle.pair_graph.specs.Graph.{Graph, Move}
use Rattle.pair_graph.specs.Steps.{move_at, graph_of, class_in, safe_in, state_in}
use Rattle.pair_graph.specs.GraphTable.{allowed, allowed_all, same_class, row_order, graph_step, graph_row, graph_table}
use Rattle.maker_file.specs.Writing.{graph_in, table_in}

module _ (n actions : ℕ) (state : ℕ → ℕ) (move : ℕ → ℕ → Move) (safe : ℕ → Bool) (class : ℕ → ℕ) (kind other : ℕ → ℕ) where
  abbrev graph : (ℕ → ℕ) → Graph
  graph k = record { pairs = n; actions = actions; state = state; kind = k; move = move }

  step_kind : (a : ℕ) (o : Option ℕ) → graph_step (graph kind) safe class a o ≡ graph_step (graph other) safe class a o
  unfolding graph_step row_order same_class allowed_all allowed
  step_kind a None = refl
  step_kind a (Some j) = refl

  row_kind : (i : ℕ) → graph_row (graph kind) safe class i ≡ graph_row (graph other) safe class i
  unfolding graph_row allowed
  row_kind i =
      ap (λ (f : ℕ → Option Step). record { state = state i; steps = present (map f (below actions)) })
      (fun_ext λ a. step_kind a (allowed (graph kind) safe class i a))

  -- Graphs that differ in kinds only have the same table.
  pub table_kind : graph_table (graph kind) safe class ≡ graph_table (graph other) safe class
  unfolding graph_table row_order same_class allowed_all allowed
  table_kind = ap (λ (f : ℕ → Row). map f (row_order (graph kind) safe class)) (fun_ext λ i. row_kind i)

-- The table of the areas is the table of the tower's graph.
pub table_of_tower : (tower : Tower) (area flags classes : List ℕ) (n : ℕ)
    → table_in area flags classes n tower.actions ≡ graph_table (graph_of tower n area) (safe_in flags) (class_in classes)
unfolding table_in graph_in graph_of
table_of_tower tower area flags classes n =
    table_kind n tower.actions (state_in area) (move_at area) (safe_in flags) (class_in classes) (λ a. 0) tower.kind
