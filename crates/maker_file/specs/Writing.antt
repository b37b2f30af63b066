-- The table of the pairs that the areas hold: what the writer is given, and what it leaves.
use Rattle.std.specs.Prelude.{ℕ, ◌+◌, ◌*◌, ◌≤◌, ◌<◌, ◌≡◌, length, ltb}
use Rattle.std.specs.Prelude.{Option, None, Some}
use mathlib.Core.List.{List, ◌++◌, map, Memᴰ}
use Rattle.std.proofs.lemmas.List.Edits.{sets}
use Rattle.base.specs.Choice.{pick}
use Rattle.base.specs.Lists.{below, present, joined, total, place_of}
use Rattle.base.specs.Bytes.{number_at, number_bytes}
use Rattle.base.specs.Search.{search_from, once}
use Rattle.logic.specs.Tables.{Step, Row, Table}
use Rattle.logic.specs.declared.FileLayout.{FileLayout}
use Rattle.logic.specs.TableFile.{rows_at, header_bytes, step_bytes, row_bytes, table_file}
use Rattle.pair_graph.specs.Graph.{Graph}
use Rattle.pair_graph.specs.Steps.{class_in, safe_in, state_in, led_to, graph_with, FlaggedGraph}
use Rattle.pair_graph.specs.GraphTable.{graph_table}
use Rattle.maker_order.specs.Orders.{followers, classes_part, same_in, order_of, RowsNumbered}

-- ---- the table

-- the graph of n pairs that the areas hold; the kinds of actions do not matter to its table
unfoldable pub graph_in : (area : List ℕ) → ℕ → ℕ → Graph
graph_in area n actions = graph_with n actions (λ a. 0) area

-- the table of that graph with its safe pairs and their classes
unfoldable pub table_in : (graph flags classes : List ℕ) → ℕ → ℕ → Table
table_in graph flags classes n actions = graph_table (graph_in graph n actions) (safe_in flags) (class_in classes)

-- ---- the writer

-- What the writer is given: the graph, flags and classes of n pairs.
pub record Writable (graph flags classes : List ℕ) (n actions : ℕ) : Type 0 where
  pub least : 1 ≤ n
  pub held : FlaggedGraph n actions graph flags
  pub classes_there : 6000 ≤ length classes
  pub class_numbers : (i : ℕ) → i < n → class_in classes i < 1000

-- A state's number takes one byte or two in files of this layout.
pub record ShortNumbers (layout : FileLayout) : Type 0 where
  pub least : 1 ≤ layout.width
  pub most : layout.width ≤ 2

-- What the writer answers and leaves in the output: the file from 0 on if there is room for it, and else the output as it was.
pub record WritesTable (file out : List ℕ) (answer : Option ℕ) (after : List ℕ) : Type 0 where
  pub answered : answer ≡ pick (ltb (length out) (length file)) (λ _. None) (λ _. Some (length file))
  pub left : after ≡ pick (ltb (length out) (length file)) (λ _. out) (λ _. sets out 0 file)

-- ---- its parts, over the list of rows

-- the step of action a, if it leads to a pair
unfoldable pub step_in : (part order : List ℕ) → ℕ → Option ℕ → Option Step
step_in part order a None = None
step_in part order a (Some j) = Some (record { action = a; target = place_of (same_in part j) order })

-- the step of action a from pair i
unfoldable pub step_from : (graph flags part order : List ℕ) → ℕ → ℕ → Option Step
step_from graph flags part order i a = step_in part order a (led_to graph flags i a)

-- the steps from pair i, actions ascending
unfoldable pub steps_in : (graph flags part order : List ℕ) → ℕ → ℕ → List Step
steps_in graph flags part order actions i = present (map (step_from graph flags part order i) (below actions))

-- the row of pair i
unfoldable pub row_in : (graph flags part order : List ℕ) → ℕ → ℕ → Row
row_in graph flags part order actions i = record { state = state_in graph i; steps = steps_in graph flags part order actions i }

-- the steps of several pairs, packed
unfoldable pub packed : (graph flags part order : List ℕ) → ℕ → List ℕ → List Step
packed graph flags part order actions pairs = joined (map (steps_in graph flags part order actions) pairs)

-- how many steps several pairs have
unfoldable pub steps_total : (graph flags : List ℕ) → ℕ → List ℕ → ℕ
steps_total graph flags actions pairs = total (map (λ i. length (followers graph flags actions i)) pairs)

-- steps as bytes
unfoldable pub bytes_of_steps : List Step → List ℕ
bytes_of_steps steps = joined (map step_bytes steps)

-- ---- its parts, over the rows of an area

-- the step of action a from pair i
abbrev pub step_of : (graph flags area : List ℕ) → ℕ → ℕ → ℕ → Option Step
step_of graph flags area rows i a = step_from graph flags (classes_part area) (order_of area rows) i a

-- the steps from pair i
abbrev pub steps_of : (graph flags area : List ℕ) → ℕ → ℕ → ℕ → List Step
steps_of graph flags area rows actions i = steps_in graph flags (classes_part area) (order_of area rows) actions i

-- the steps of all rows, packed
abbrev pub packed_of : (graph flags area : List ℕ) → ℕ → ℕ → List Step
packed_of graph flags area rows actions = packed graph flags (classes_part area) (order_of area rows) actions (order_of area rows)

-- the rows
abbrev pub rows_of : (graph flags area : List ℕ) → ℕ → ℕ → Table
rows_of graph flags area rows actions =
    map (row_in graph flags (classes_part area) (order_of area rows) actions) (order_of area rows)

-- The rows are in order in the area.
pub record Laid (graph flags area : List ℕ) (n actions rows : ℕ) : Type 0 where
  pub held : FlaggedGraph n actions graph flags
  pub numbered : RowsNumbered n area rows
  pub order : order_of area rows ≡ search_from (same_in (classes_part area)) (followers graph flags actions) once n 0

-- Pair i stands for a row.
pub record IsRow (area : List ℕ) (rows i : ℕ) : Type 0 where
  pub listed : Memᴰ i (order_of area rows)

-- The first four numbers of the header are written: rows, steps, and where each begin.
pub record WroteCounts (rows steps place : ℕ) (out after : List ℕ) : Type 0 where
  pub left : after ≡ sets (sets out 0 (number_bytes 2 rows ++ number_bytes 2 steps)) 4 (number_bytes 2 rows_at ++ number_bytes 2 place)

-- The header is written.
pub record WroteHeader (layout : FileLayout) (rows steps states actions : ℕ) (out after : List ℕ) : Type 0 where
  pub left : after ≡ sets out 0 (header_bytes layout rows steps states actions)

-- Steps are written from p on; the next ones go to `next`.
pub record Wrote (steps : List Step) (out : List ℕ) (p : ℕ) (after : List ℕ) (next : ℕ) : Type 0 where
  pub same_length : length after ≡ length out
  pub left : after ≡ sets out p (bytes_of_steps steps)
  pub behind : next ≡ p + 3 * length steps

-- The row of pair j's class stands in the area, as its number plus 1.
pub record RowsMarked (area : List ℕ) (n j : ℕ) : Type 0 where
  pub class_there : 2 * j + 1 < length area
  pub mark_there : 2000 + 2 * n + 2 * number_at 2 area (2 * j) + 1 < length area
  pub marked : 1 ≤ number_at 2 area (2000 + 2 * n + 2 * number_at 2 area (2 * j))

-- The rows are written behind the header.
pub record WroteRows (layout : FileLayout) (graph flags area : List ℕ) (actions rows : ℕ) (out after : List ℕ) : Type 0 where
  pub same_length : length after ≡ length out
  pub left : after ≡ sets out rows_at (row_bytes layout 0 (rows_of graph flags area rows actions))

-- The whole file is written, and this is its length.
pub record WroteFile (layout : FileLayout) (graph flags area : List ℕ) (states actions rows : ℕ) (out after : List ℕ) (size : ℕ) : Type 0 where
  pub left : after ≡ sets out 0 (table_file layout states actions (rows_of graph flags area rows actions))
  pub long : size ≡ length (table_file layout states actions (rows_of graph flags area rows actions))
