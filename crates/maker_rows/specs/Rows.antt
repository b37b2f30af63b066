-- What is promised from the pairs that were met on: the file of the made table, and the answer.
use Rattle.std.specs.Prelude.{ℕ, ◌*◌, ◌≤◌, ◌≡◌, true, false, List, [], length}
use Rattle.base.specs.Answers.{Answer, ◌then◌}
use Rattle.std.specs.Prelude.{Ok}
use Rattle.base.specs.Answers.{MakeAnswer}
use Rattle.logic.specs.Tower.{FitTower, tower_of, layout_of}
use Rattle.logic.specs.Book.{Book}
use Rattle.logic.specs.TableFile.{table_file}
use Rattle.alternatives.specs.Pairs.{over_pairs, over_alternatives}
use Rattle.outcome.specs.Areas.{room_area, flags_area, classes_area}
use Rattle.outcome.specs.Make.{table_for, fitting, written, MakeOutcome}
use Rattle.pair_graph.specs.Graph.{Graph, Classes}
use Rattle.pair_graph.specs.Steps.{action_room, graph_of, HoldsGraph, safe_in}
use Rattle.pair_graph.specs.Predecessors.{Listed}
use Rattle.pair_graph.specs.GraphTable.{graph_table}
use Rattle.pair_graph.specs.GraphOf.{GraphOf}

-- ---- the file

-- the file of the made table, where the tower's file is fit and the book is read
unfoldable pub made_table_file : (tower : List ℕ) → Book → Answer (List ℕ)
made_table_file tower book =
    table_for (tower_of tower) book then λ table. Ok (table_file (layout_of tower) (tower_of tower).states (tower_of tower).actions table)

-- how a call ends that makes this file or is refused, but for the areas
unfoldable pub ending : Answer (List ℕ) → List ℕ → MakeOutcome
ending file out = written (file then λ bytes. fitting (length out) bytes) out []

-- The answer, and what the output holds at the end.
pub record Ends (file : Answer (List ℕ)) (out : List ℕ) (r : MakeAnswer) (after : List ℕ) : Type 0 where
  pub answer : r ≡ (ending file out).answer
  pub output : after ≡ (ending file out).output

-- ---- the pairs

-- the graph of n pairs that the areas hold
abbrev pub graph_in : (tower area : List ℕ) → ℕ → Graph
graph_in tower area n = graph_of (tower_of tower) n area

-- The area holds a graph of n pairs, and there is room for the flags, the classes and the marks.
pub record PairsMet (tower graph flags classes marks : List ℕ) (n : ℕ) : Type 0 where
  pub fit : FitTower tower
  pub least : 1 ≤ n
  pub holds : HoldsGraph n (tower_of tower).actions graph
  pub flags_room : flags_area ≤ length flags
  pub classes_room : classes_area ≤ length classes
  pub marks_room : room_area ≤ length marks

-- The first pair is safe, and the lists of predecessors are there.
pub record PairsSafe (tower graph flags classes marks : List ℕ) (n : ℕ) : Type 0 where
  pub met : PairsMet tower graph flags classes marks n
  pub listed : Listed n (tower_of tower).actions graph (action_room * n) flags
  pub first_safe : safe_in flags 0 ≡ true

-- The table of the safe pairs is the file, whatever numbers their classes have.
pub record SafeWritten (r : MakeAnswer) (tower graph flags : List ℕ) (n : ℕ) (out after : List ℕ) : Type 0 where
  pub class : ℕ → ℕ
  pub classes : Classes (graph_in tower graph n) (safe_in flags) class
  pub ends : Ends (Ok (table_file (layout_of tower) (tower_of tower).states (tower_of tower).actions (graph_table (graph_in tower graph n) (safe_in flags) class))) out r after

-- The made table is the file, or there is none, for each book whose pairs these are.
pub record RowsMade (r : MakeAnswer) (tower graph : List ℕ) (n : ℕ) (out after : List ℕ) : Type 0 where
  pub says : (book : Book) → over_pairs (tower_of tower) book ≡ false → over_alternatives (tower_of tower) book ≡ false
      → GraphOf (tower_of tower) book (graph_in tower graph n) → Ends (made_table_file tower book) out r after
