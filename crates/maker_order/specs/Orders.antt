-- The order of the rows in a lent area: behind the classes of the pairs a list of pairs, one for each row, and behind that for each class
-- the number of its row plus 1, or 0.
use Rattle.std.specs.Prelude.{ℕ, zero, suc, ◌+◌, ◌*◌, ◌≤◌, ◌<◌, ◌≡◌, Bool, length, take, eqb}
use mathlib.Core.List.{List, [], ◌∷◌, ◌++◌, map, Memᴰ}
use Rattle.base.specs.Choice.{pick}
use Rattle.base.specs.Lists.{below, present, some_of, place_of}
use Rattle.base.specs.Bytes.{number_at}
use Rattle.base.specs.Search.{Apart, new_ones, search_from, once}
use Rattle.pair_graph.specs.Steps.{class_in, led_to}

-- ---- the graph

-- the pairs that allowed actions lead to from pair i, actions ascending
unfoldable pub followers : List ℕ → List ℕ → ℕ → ℕ → List ℕ
followers graph flags actions i = present (map (led_to graph flags i) (below actions))

-- ---- the area

-- where the list of rows begins, behind two bytes for each pair: its class
abbrev pub order_at : ℕ
order_at = 2000

-- where the rows of the classes begin, behind a list of at most n rows
abbrev pub marks_at : ℕ → ℕ
marks_at n = order_at + 2 * n

-- the part of the area that holds the classes
abbrev pub classes_part : List ℕ → List ℕ
classes_part area = take order_at area

-- pairs of one class
unfoldable pub same_in : List ℕ → ℕ → ℕ → Bool
same_in part i j = eqb (class_in part i) (class_in part j)

-- the first so many pairs of the list of rows
unfoldable pub order_of : List ℕ → ℕ → List ℕ
order_of area zero = []
order_of area (suc k) = order_of area k ++ (number_at 2 area (order_at + 2 * k) ∷ [])

-- pair i is of class c
unfoldable pub of_class : List ℕ → ℕ → ℕ → Bool
of_class part c i = eqb c (class_in part i)

-- the row of class c plus 1, or 0 if it has none
unfoldable pub mark_in : List ℕ → List ℕ → ℕ → ℕ
mark_in part seen c = pick (some_of (of_class part c) seen) (λ _. suc (place_of (of_class part c) seen)) (λ _. 0)

-- those seen and what is new among others
unfoldable pub grown : List ℕ → List ℕ → List ℕ → List ℕ
grown part seen others = seen ++ new_ones (same_in part) seen others

-- The area holds so many rows: pairs below n, no two of one class, and each class's row.
pub record RowsNumbered (n : ℕ) (area : List ℕ) (rows : ℕ) : Type 0 where
  pub pairs : n ≤ 1000
  pub few : rows ≤ n
  pub room : 6000 ≤ length area
  pub classes : (i : ℕ) → i < n → class_in (classes_part area) i < 1000
  pub pairs_below : (y : ℕ) → Memᴰ y (order_of area rows) → y < n
  pub apart : Apart (same_in (classes_part area)) (order_of area rows)
  pub marks : (c : ℕ) → c < 1000 → number_at 2 area (marks_at n + 2 * c) ≡ mark_in (classes_part area) (order_of area rows) c

-- From so many rows in an area to more of them: the classes are kept, and the new rows are those of the others that are new.
pub record Grows (n : ℕ) (area : List ℕ) (rows : ℕ) (others : List ℕ) (after : List ℕ) (rows_after : ℕ) : Type 0 where
  pub same_length : length after ≡ length area
  pub same_classes : classes_part after ≡ classes_part area
  pub numbered : RowsNumbered n after rows_after
  pub order : order_of after rows_after ≡ grown (classes_part area) (order_of area rows) others

-- An area with the classes of n pairs, as it is handed over.
pub record Classed (n : ℕ) (area : List ℕ) : Type 0 where
  pub least : 1 ≤ n
  pub pairs : n ≤ 1000
  pub room : 6000 ≤ length area
  pub classes : (i : ℕ) → i < n → class_in (classes_part area) i < 1000

-- No class has a row, and the classes are as they were.
pub record Cleared (n : ℕ) (area after : List ℕ) : Type 0 where
  pub same_length : length after ≡ length area
  pub same_classes : classes_part after ≡ classes_part area
  pub marks : (c : ℕ) → c < 1000 → number_at 2 after (marks_at n + 2 * c) ≡ 0

-- The rows are in order: the classes are kept, and the rows are what a search from pair 0 meets.
pub record InOrder (graph flags : List ℕ) (n actions : ℕ) (area after : List ℕ) (rows : ℕ) : Type 0 where
  pub same_length : length after ≡ length area
  pub same_classes : classes_part after ≡ classes_part area
  pub numbered : RowsNumbered n after rows
  pub order : order_of after rows ≡ search_from (same_in (classes_part area)) (followers graph flags actions) once n 0
