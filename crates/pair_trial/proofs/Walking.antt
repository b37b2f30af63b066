-- The tower that is searched, by the switch: what the files say of it, and the ways of the functions that read it.
use Prim.Native.Nat.{ℕ, ◌<◌}
use native.Mathlib.Omega.{arith}
use mathlib.Core.Path.{◌≡◌, refl, sym, ◌∙◌, ap, subst}
use mathlib.Core.Bool.{Bool, true, false}
use Rattle.std.specs.Prelude.{Option, Some}
use mathlib.Core.List.{List}
use Rattle.base.specs.Lists.{is_there}
use Rattle.base.proofs.Lists.{is_there_in, there_not}
use Rattle.logic.specs.Tower.{FitTower, tower_of, mask_of, bit}
use Rattle.logic.specs.Tables.{row_at, move, rows_tower}
use Rattle.logic.specs.TableFile.{most_rows}
use Rattle.reading.specs.TableReading.{rows_of, row_first, row_count, table_states, row_state, row_of_table, header_right, laid_out, table_of}
use Rattle.reading.proofs.LaidOut.{length_table_of, row_of_table_at}
use Rattle.book_progression.specs.NodeBytes.{MarkedState}
use Rattle.std.specs.Prelude.{None}
use Rattle.file_tower.proofs.Laws.{fit_bounds, state_reached, none_reached}
use Rattle.file_table.proofs.Laws.{header_of, laid_out_known, move_read, step_to_from, target_row, target_nothing}
use Rattle.pair_trial.specs.Walked.{walked, tower_state, Searchable, TowerWithBook, Files, Walkable}

-- ---- the tower itself

-- A fit tower is searchable.
tower_searchable : (tower : List ℕ) → FitTower tower → Searchable (tower_of tower)
tower_searchable tower fit =
    let bounds = fit_bounds fit in
    record {
      states_most = omega (arith, bounds.states_most);
      actions_most = bounds.actions_most;
      start_below = bounds.start_below;
      targets = bounds.targets;
    }

-- A fit tower by its states.
pub tower_walkable : (tower table nodes : List ℕ) → TowerWithBook tower nodes → Walkable tower table false nodes
unfolding walked tower_state
tower_walkable tower table nodes world =
    record {
      files =
          record {
            fit = world.fit;
            layout = λ e. absurd (let z : ◌≡◌ {A = ℕ} 0 1 = cc in omega arith);
            search = tower_searchable tower world.fit;
            states = λ x l. l;
          };
      held = world.held;
    }

-- ---- the rows of a table

-- The state of a row is the one in the file.
row_state_at : (table : List ℕ) (r : ℕ) → r < rows_of table → (row_at (table_of table) r).state ≡ row_state table r
unfolding row_of_table
row_state_at table r l = rw (row_of_table_at table r l)

-- An action leads from a row to a row.
row_led : (table : List ℕ) → laid_out table ≡ true → (r a s : ℕ) → r < rows_of table → move (table_of table) r a ≡ Some s → s < rows_of table
row_led table layout r a s l e =
    let known = laid_out_known table layout in
    let allowing = step_to_from table (row_count table r) (row_first table r) a s (sym (move_read table r a l) ∙ e) in
    subst (λ z. z < rows_of table) allowing.target (known.step allowing.at (omega (arith, allowing.below, (known.row r l).last))).target

-- A table for a fit tower is searchable.
rows_searchable : (tower table : List ℕ) → FitTower tower → laid_out table ≡ true → Searchable (rows_tower (tower_of tower) (table_of table))
unfolding rows_tower most_rows
rows_searchable tower table fit layout =
    let known = laid_out_known table layout in
    record {
      states_most = omega (arith, length_table_of table, known.header.few_rows);
      actions_most = (fit_bounds fit).actions_most;
      start_below = omega (arith, length_table_of table, known.header.a_row);
      targets = λ r a s l e.
          let inside = row_led table layout r a s (subst (λ n. r < n) (length_table_of table) l) e in
          subst (λ n. s < n) (sym (length_table_of table)) inside;
    }

-- A table for a fit tower by its rows.
pub rows_walkable : (tower table nodes : List ℕ) → TowerWithBook tower nodes → laid_out table ≡ true
    → table_states table ≡ (tower_of tower).states → Walkable tower table true nodes
unfolding walked tower_state rows_tower
rows_walkable tower table nodes world layout states =
    record {
      files =
          record {
            fit = world.fit;
            layout = λ e. layout;
            search = rows_searchable tower table world.fit layout;
            states = λ r l. inside r (subst (λ n. r < n) (length_table_of table) l);
          };
      held = world.held;
    }
  where
    inside : (r : ℕ) → r < rows_of table → (row_at (table_of table) r).state < (tower_of tower).states
    inside r l = omega (arith, row_state_at table r l, ((laid_out_known table layout).row r l).state, states)

-- ---- what both have of the tower

module _ (tower table : List ℕ) where
  pub walked_actions : (rows : Bool) → (walked tower table rows).actions ≡ (tower_of tower).actions
  unfolding walked rows_tower
  walked_actions true = refl
  walked_actions false = refl

  pub walked_length : (rows : Bool) (x a : ℕ) → (walked tower table rows).step_length x a ≡ (tower_of tower).step_length (tower_state table rows x) a
  unfolding walked rows_tower tower_state
  walked_length true x a = refl
  walked_length false x a = refl

  pub marked_so : (rows : Bool) (x k : ℕ) → (walked tower table rows).marked x k ≡ bit k (mask_of tower (tower_state table rows x))
  unfolding walked rows_tower tower_state tower_of
  marked_so true x k = refl
  marked_so false x k = refl

  -- A state has the marks of the tower's state that it stands for.
  unfoldable pub walked_marks : (rows : Bool) (x : ℕ) → MarkedState (mask_of tower (tower_state table rows x))
  walked_marks rows x = record { tower = walked tower table rows; state = x; marks = marked_so rows x }

-- ---- the ways of `start`, `tower_state` and `target`

module _ (tower table : List ℕ) (rows : Bool) where
  pub start_row : rows ≡ true → 0 ≡ (walked tower table rows).start
  unfolding walked rows_tower
  start_row e = rw e

  pub start_state : (x : ℕ) → rows ≡ false → x ≡ (tower_of tower).start → x ≡ (walked tower table rows).start
  unfolding walked
  start_state x e f = rw e f

  -- The table has a header, and the state is a row.
  pub rows_header : Files tower table rows → rows ≡ true → header_right table ≡ true
  rows_header files e = header_of table (files.layout e)

  pub rows_laid : Files tower table rows → rows ≡ true → laid_out table ≡ true
  rows_laid files e = files.layout e

  pub row_below : (x : ℕ) → rows ≡ true → x < (walked tower table rows).states → x < rows_of table
  unfolding walked rows_tower
  row_below x e l =
      subst (λ n. x < n) (length_table_of table) (subst (λ b. x < (walked tower table b).states) e l)

  pub state_below : (x : ℕ) → rows ≡ false → x < (walked tower table rows).states → x < (tower_of tower).states
  unfolding walked
  state_below x e l = subst (λ b. x < (walked tower table b).states) e l

  pub action_below : (a : ℕ) → a < (walked tower table rows).actions → a < (tower_of tower).actions
  action_below a l = subst (λ n. a < n) (walked_actions tower table rows) l

  pub actions_read : (n : ℕ) → n ≡ (tower_of tower).actions → n ≡ (walked tower table rows).actions
  actions_read n e = e ∙ sym (walked_actions tower table rows)

  pub state_of_row : (x y : ℕ) → rows ≡ true → x < (walked tower table rows).states → y ≡ row_state table x → y ≡ tower_state table rows x
  unfolding tower_state
  state_of_row x y e l f = f ∙ sym (row_state_at table x (row_below x e l)) ∙ ap (λ b. tower_state table b x) (sym e)

  pub state_itself : (x : ℕ) → rows ≡ false → x ≡ tower_state table rows x
  unfolding tower_state
  state_itself x e = rw e

  pub target_row_read : (x a : ℕ) (r : Option ℕ) → rows ≡ true → r ≡ (move (table_of table) x a)
      → r ≡ ((walked tower table rows).target x a)
  unfolding walked rows_tower
  target_row_read x a r e f = rw e f

  pub target_state_read : (x a : ℕ) (r : Option ℕ) → rows ≡ false → r ≡ ((tower_of tower).target x a)
      → r ≡ ((walked tower table rows).target x a)
  unfolding walked
  target_state_read x a r e f = rw e f

-- ---- the ways of `row_target`

pub row_reached : (o : Option ℕ) (t : Option ℕ) (y : ℕ) → t ≡ o → t ≡ Some y → Some y ≡ o
row_reached o t y e f = sym (rw (target_row o t y e f))

pub row_nowhere : (o : Option ℕ) (t : Option ℕ) → t ≡ o → t ≡ None → None ≡ o
row_nowhere o t e f = sym (rw (target_nothing o t e f))

-- ---- the ways of `is_enabled`

pub enabled_there : (o : Option ℕ) (r : Option ℕ) (y : ℕ) → r ≡ o → r ≡ Some y → true ≡ is_there o
enabled_there o r y e f = sym (is_there_in (state_reached o r y e f))

pub enabled_not : (o : Option ℕ) (r : Option ℕ) → r ≡ o → r ≡ None → false ≡ is_there o
enabled_not o r e f = sym (there_not (none_reached o r e f))

-- The tower's state that x stands for is one.
pub tower_state_inside : (tower table : List ℕ) (rows : Bool) (x z : ℕ) → z ≡ tower_state table rows x → Files tower table rows
    → x < (walked tower table rows).states → z < (tower_of tower).states
tower_state_inside tower table rows x z e files l = rw e (files.states x l)
