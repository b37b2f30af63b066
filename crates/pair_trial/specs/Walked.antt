-- The tower whose pairs are searched: that of a tower file, or the rows of a table for it. A switch says which.
use Rattle.std.specs.Prelude.{ℕ, ◌≤◌, ◌<◌, ◌≡◌, Bool, true, false, List}
use Rattle.std.specs.Prelude.{Some}
use Rattle.logic.specs.Tower.{Tower, FitTower, tower_of}
use Rattle.logic.specs.Tables.{row_at, rows_tower}
use Rattle.reading.specs.TableReading.{laid_out, table_of}
use Rattle.book_progression.specs.NodeBytes.{IsHeld}

-- the tower itself, or the table for it as a tower
unfoldable pub walked : List ℕ → List ℕ → Bool → Tower
walked tower table true = rows_tower (tower_of tower) (table_of table)
walked tower table false = tower_of tower

-- the tower's state that a state of it stands for: itself, or that of the row
unfoldable pub tower_state : List ℕ → Bool → ℕ → ℕ
tower_state table true r = (row_at (table_of table) r).state
tower_state table false x = x

-- What a search needs of a tower: its states have numbers of two bytes, its actions have room in the graph, and it never leaves its states.
pub record Searchable (tower : Tower) : Type 0 where
  pub states_most : tower.states ≤ 65536
  pub actions_most : tower.actions ≤ 16
  pub start_below : tower.start < tower.states
  pub targets : (x a y : ℕ) → x < tower.states → tower.target x a ≡ Some y → y < tower.states

-- A fit tower, and an area that holds a book.
pub record TowerWithBook (tower nodes : List ℕ) : Type 0 where
  pub fit : FitTower tower
  pub held : IsHeld nodes

-- The files: a fit tower, and a table that is laid out for it where its rows are searched.
pub record Files (tower table : List ℕ) (by_rows : Bool) : Type 0 where
  pub fit : FitTower tower
  pub layout : by_rows ≡ true → laid_out table ≡ true
  pub search : Searchable (walked tower table by_rows)
  pub states : (x : ℕ) → x < (walked tower table by_rows).states → tower_state table by_rows x < (tower_of tower).states

-- The same with an area that holds a book.
pub record Walkable (tower table : List ℕ) (by_rows : Bool) (nodes : List ℕ) : Type 0 where
  pub files : Files tower table by_rows
  pub held : IsHeld nodes
