-- A table as bytes: which tables fit a file, how many steps they have, and how long the file is.
use Prim.Native.Nat.{ℕ, ◌+◌, ◌*◌, ◌≤◌, ◌<◌}
use native.Mathlib.Omega.{arith}
use native.Mathlib.Nat.{le_trans, mul-le-mul, mul-suc}
use mathlib.Core.Path.{◌≡◌, refl, ◌∙◌, ap}
use Rattle.std.specs.Prelude.{Some}
use mathlib.Core.List.{List, [], ◌∷◌, ◌++◌, map, Memᴰ}
use lib.ListN.{length, length-append}
use Rattle.base.specs.Lists.{joined}
use Rattle.base.specs.Bytes.{number_bytes}
use Rattle.base.proofs.Lists.{mem_index, mem_get_or}
use Rattle.base.proofs.Bytes.{AllBytes, length_number_bytes, number_bytes_bytes, no_bytes, append_bytes}
use Rattle.logic.specs.declared.FileLayout.{FileLayout}
use Rattle.logic.specs.Tower.{Tower, Listed, most_actions}
use Rattle.logic.specs.Book.{Book}
use Rattle.logic.specs.Tables.{Step, Row, Table, row_at, step_to, move, IsTable, StepsRight, Ascending, IsMade}
use Rattle.logic.specs.TableFile.{most_rows, rows_at, row_size, step_size, steps_at, all_steps, step_bytes, row_bytes, header_bytes, table_file}
use Rattle.logic.proofs.Canonical.{step_found, step_member, ascending_once, arrives, first_met_reached, Canonical, made_canonical}
use Rattle.logic.proofs.Layouts.{IsLayout}
use Rattle.logic.proofs.TowerFile.{TowerFits, leads_to_state}

-- The table fits a file of this layout for so many states and actions.
pub record Fits (layout : FileLayout) (states actions : ℕ) (table : Table) : Type 0 where
  pub laid : IsLayout layout
  pub a_state : 1 ≤ states
  pub few_states : states ≤ layout.most
  pub an_action : 1 ≤ actions
  pub few_actions : actions ≤ most_actions
  pub few_rows : length table ≤ most_rows
  pub is_table : IsTable table
  pub state : (r : ℕ) → r < length table → (row_at table r).state < states
  pub action : (r a s : ℕ) → r < length table → move table r a ≡ Some s → a < actions
  pub ascending : (r : ℕ) → r < length table → Ascending (row_at table r).steps

-- One row fits a file for so many states, actions and rows.
pub record RowFits (states actions rows : ℕ) (row : Row) : Type 0 where
  pub state : row.state < states
  pub ascending : Ascending row.steps
  pub action : (s : Step) → Memᴰ s row.steps → s.action < actions
  pub target : (s : Step) → Memᴰ s row.steps → s.target < rows

row_mem : (table : Table) (r : ℕ) → r < length table → Memᴰ (row_at table r) table
unfolding row_at
row_mem table r lt = mem_get_or table r (record { state = 0; steps = [] }) lt

move_step : (table : Table) (r a s : ℕ) → move table r a ≡ Some s → step_to (row_at table r).steps a ≡ Some s
unfolding move
move_step table r a s e = e

-- Every row of a table that fits does.
pub fits_row : (layout : FileLayout) (states actions : ℕ) (table : Table) → Fits layout states actions table → (row : Row)
    → Memᴰ row table → RowFits states actions (length table) row
unfolding row_at move
fits_row layout states actions table f row i = go (mem_index (record { state = 0; steps = [] }) i)
  where
    go : (r : ℕ) × (r < length table) × (row_at table r ≡ row) → RowFits states actions (length table) row
    go (r, lt, e) =
        record {
          state = rw e at (f.state r lt);
          ascending = rw e at (f.ascending r lt);
          action = λ s k. f.action r s.action s.target lt (found s k);
          target = λ s k. f.is_table.targets r s.action s.target lt (found s k);
        }
      where
        found : (s : Step) → Memᴰ s row.steps → move table r s.action ≡ Some s.target
        found s k = rw e (step_found s row.steps (rw e at (f.is_table.once r lt)) k)

-- A table fits if there are rows, not too many, for states and actions in range, and every row does.
pub fits_by_rows : (layout : FileLayout) (states actions : ℕ) (table : Table) → IsLayout layout → 1 ≤ states → states ≤ layout.most
    → 1 ≤ actions → actions ≤ most_actions → 0 < length table → length table ≤ most_rows
    → ((row : Row) → Memᴰ row table → RowFits states actions (length table) row) → Fits layout states actions table
fits_by_rows layout states actions table laid a b c d there few fit =
    record {
      laid = laid;
      a_state = a;
      few_states = b;
      an_action = c;
      few_actions = d;
      few_rows = few;
      is_table =
          record {
            some_row = there;
            targets = λ r x s lt e. (step_fits r x s lt e).1;
            once = λ r lt. ascending_once (row_at table r).steps (at r lt).ascending;
          };
      state = λ r lt. (at r lt).state;
      action = λ r x s lt e. (step_fits r x s lt e).0;
      ascending = λ r lt. (at r lt).ascending;
    }
  where
    at : (r : ℕ) → r < length table → RowFits states actions (length table) (row_at table r)
    at r lt = fit (row_at table r) (row_mem table r lt)

    step_fits : (r x s : ℕ) → r < length table → move table r x ≡ Some s → (x < actions) × (s < length table)
    step_fits r x s lt e =
        let (t, i, f, g) = step_member (row_at table r).steps x s (move_step table r x s e) in
        (rw f at ((at r lt).action t i), rw g at ((at r lt).target t i))

-- A canonical table for a tower that fits, with not too many rows, fits.
pub canonical_fits : (layout : FileLayout) (tower : Tower) (table : Table) → TowerFits layout tower → Canonical tower table
    → length table ≤ most_rows → Fits layout tower.states tower.actions table
unfolding Listed StepsRight
canonical_fits layout tower table f c few =
    record {
      laid = f.laid;
      a_state = f.a_state;
      few_states = f.few_states;
      an_action = f.an_action;
      few_actions = f.few_actions;
      few_rows = few;
      is_table = c.follows.is_table;
      state = λ r lt.
          let (w, e) = first_met_reached table c.follows.is_table c.first_met r lt in
          leads_to_state tower f tower.start (row_at table r).state w f.start (arrives tower table c.follows w r e).state;
      action = λ r a s lt e. f.listed (row_at table r).state a (row_at table s).state (c.follows.steps r lt a s e);
      ascending = c.ascending;
    }

-- A made table for a tower that fits, with not too many rows, fits.
pub made_fits : (layout : FileLayout) (tower : Tower) (book : Book) (table : Table) → TowerFits layout tower → IsMade tower book table
    → length table ≤ most_rows → Fits layout tower.states tower.actions table
made_fits layout tower book table f m few = canonical_fits layout tower table f (made_canonical tower book table m) few

-- Ascending steps whose actions are below n, from the first of them on, are no more than there is room for.
ascending_room : (n : ℕ) (s : Step) (steps : List Step) → Ascending (s ∷ steps) → ((t : Step) → Memᴰ t (s ∷ steps) → t.action < n)
    → s.action + length (s ∷ steps) ≤ n
unfolding Ascending
ascending_room n s [] up below = omega (arith, below s (Memᴰ.head refl))
ascending_room n s (t ∷ steps) up below =
    omega (arith, up.0, ascending_room n t steps up.1 (λ u i. below u (Memᴰ.tail i)))

-- A row has at most as many steps as there are actions.
pub row_few : (states actions rows : ℕ) (row : Row) → RowFits states actions rows row → length row.steps ≤ actions
row_few states actions rows row f = go row.steps f.ascending f.action
  where
    go : (steps : List Step) → Ascending steps → ((t : Step) → Memᴰ t steps → t.action < actions) → length steps ≤ actions
    go [] up below = omega arith
    go (s ∷ steps) up below = omega (arith, ascending_room actions s steps up below)

-- All steps: those of the first row, and those of the others.
pub all_steps_cons : (row : Row) (rows : List Row) → all_steps (row ∷ rows) ≡ row.steps ++ all_steps rows
unfolding all_steps joined
all_steps_cons row rows = refl

-- How many they are.
pub length_all_steps : (row : Row) (rows : List Row) → length (all_steps (row ∷ rows)) ≡ length row.steps + length (all_steps rows)
length_all_steps row rows = ap length (all_steps_cons row rows) ∙ length-append row.steps (all_steps rows)

-- Rows that fit have at most so many steps in all.
pub few_steps : (states actions rows : ℕ) (table : Table) → ((row : Row) → Memᴰ row table → RowFits states actions rows row)
    → length (all_steps table) ≤ length table * actions
unfolding all_steps joined
few_steps states actions rows [] f = omega arith
few_steps states actions rows (row ∷ table) f =
    omega (
      arith,
      length_all_steps row table,
      row_few states actions rows row (f row (Memᴰ.head refl)),
      few_steps states actions rows table (λ x i. f x (Memᴰ.tail i)),
    )

-- A table that fits has at most 16,000 steps.
pub fits_few_steps : (layout : FileLayout) (states actions : ℕ) (table : Table) → Fits layout states actions table
    → length (all_steps table) ≤ 16000
unfolding most_rows most_actions
fits_few_steps layout states actions table f =
    le_trans (few_steps states actions (length table) table (fits_row layout states actions table f)) (mul-le-mul f.few_rows f.few_actions)

-- ---- lengths

length_written : (width n : ℕ) (rest : List ℕ) → length (number_bytes width n ++ rest) ≡ width + length rest
length_written width n rest = length-append (number_bytes width n) rest ∙ ap (λ m. m + length rest) (length_number_bytes width n)

-- A row's state, step count and first step.
row_size_is : (layout : FileLayout) → row_size layout ≡ layout.width + 3
unfolding row_size
row_size_is layout = refl

-- The header is twelve bytes.
pub length_header : (layout : FileLayout) (rows steps states actions : ℕ) → length (header_bytes layout rows steps states actions) ≡ rows_at
unfolding header_bytes joined rows_at number_bytes
length_header layout rows steps states actions = refl

-- A row is so many bytes.
pub length_row_bytes : (layout : FileLayout) (first : ℕ) (rows : List Row) → length (row_bytes layout first rows) ≡ row_size layout * length rows
unfolding row_bytes
length_row_bytes layout first [] = omega arith
length_row_bytes layout first (row ∷ rows) =
    simp length_written (omega (
      arith,
      length_row_bytes layout (first + length row.steps) rows,
      mul-suc (row_size layout) (length rows),
      row_size_is layout,
    ))

-- A step is three bytes.
pub length_step_bytes : (s : Step) → length (step_bytes s) ≡ step_size
unfolding step_bytes step_size number_bytes
length_step_bytes s = refl

-- The steps' bytes.
pub length_steps_bytes : (steps : List Step) → length (joined (map step_bytes steps)) ≡ step_size * length steps
unfolding joined
length_steps_bytes [] = omega arith
length_steps_bytes (s ∷ steps) =
    rw (length-append (step_bytes s) (joined (map step_bytes steps)), length_step_bytes s) (omega (arith, length_steps_bytes steps))

-- The length of a table's file: header, rows and steps.
pub length_table_file : (layout : FileLayout) (states actions : ℕ) (table : Table)
    → length (table_file layout states actions table) ≡ steps_at layout (length table) + step_size * length (all_steps table)
unfolding table_file steps_at
length_table_file layout states actions table =
    simp (length-append, length_header, length_row_bytes, length_steps_bytes) (omega arith)

-- ---- bytes

joined_bytes : {X : Type 0} (f : X → List ℕ) (xs : List X) → ((x : X) → AllBytes (f x)) → AllBytes (joined (map f xs))
unfolding joined
joined_bytes f [] h = no_bytes
joined_bytes f (x ∷ xs) h = append_bytes (h x) (joined_bytes f xs h)

row_bytes_bytes : (layout : FileLayout) (first : ℕ) (rows : List Row) → AllBytes (row_bytes layout first rows)
unfolding row_bytes
row_bytes_bytes layout first [] = no_bytes
row_bytes_bytes layout first (row ∷ rows) =
    append_bytes (number_bytes_bytes layout.width row.state) (append_bytes (number_bytes_bytes 1 (length row.steps))
    (append_bytes (number_bytes_bytes 2 first) (row_bytes_bytes layout (first + length row.steps) rows)))
