-- 01, 'Good tables': tables, what a table allows, when it is good, and which form the made table has.
use Rattle.std.specs.Prelude.{ℕ, suc, ◌<◌, ◌≡◌, ◌↔◌, ◌⊎◌, true, false, List, [], ◌∷◌, length, get_or, eqb}
use Rattle.std.specs.Prelude.{Option, None, Some}
use Rattle.base.specs.Choice.{pick}
use Rattle.logic.specs.Tower.{Tower, controllable, goes_on}
use Rattle.logic.specs.Book.{Book}
use Rattle.logic.specs.Runs.{leads, Unbroken}

-- A step of a row: an action with a target row.
pub record Step : Type 0 where
  pub action : ℕ
  pub target : ℕ

-- A row: a tower state and steps.
pub record Row : Type 0 where
  pub state : ℕ
  pub steps : List Step

abbrev pub Table : Type 0
Table = List Row

-- row r; past the last row, one with no steps
unfoldable pub row_at : Table → ℕ → Row
row_at table r = get_or table r (record { state = 0; steps = [] })

-- the target row of an action among the steps; nothing where it has none
unfoldable pub step_to : List Step → ℕ → Option ℕ
step_to [] a = None
step_to (s ∷ steps) a = pick (eqb s.action a) (λ _. Some s.target) (λ _. step_to steps a)

-- the row that an allowed action leads to from row r
unfoldable pub move : Table → ℕ → ℕ → Option ℕ
move table r a = step_to (row_at table r).steps a

-- the action is allowed in row r
unfoldable pub AllowsAction : Table → ℕ → ℕ → Type 0
AllowsAction table r a = (s : ℕ) × (move table r a ≡ Some s)

-- from row r on, each action in turn has a step in the row reached and leads to that step's target row
unfoldable pub AllowsFrom : Table → ℕ → List ℕ → Type 0
AllowsFrom table r w = (s : ℕ) × (leads (move table) r w ≡ Some s)

-- A table allows a run if it does so from row 0 on.
unfoldable pub Allows : Table → List ℕ → Type 0
Allows table w = AllowsFrom table 0 w

-- the actions of the steps are distinct: the step that comes first for an action is its only one
unfoldable pub Once : List Step → Type 0
Once [] = Unit {0}
Once (s ∷ steps) = (step_to steps s.action ≡ None) × Once steps

-- One row or more; targets are rows; no action twice in a row.
pub record IsTable (table : Table) : Type 0 where
  pub some_row : 0 < length table
  pub targets : (r a s : ℕ) → r < length table → move table r a ≡ Some s → s < length table
  pub once : (r : ℕ) → r < length table → Once (row_at table r).steps

-- (a) Row 0 has the tower's start state.
unfoldable pub GoodStart : Tower → Table → Type 0
GoodStart tower table = (row_at table 0).state ≡ tower.start

-- (b) In row r each enabled action that may not be withheld, of kind 0 or 2, is allowed.
unfoldable pub NoneWithheld : Tower → Table → ℕ → Type 0
NoneWithheld tower table r =
    (a y : ℕ) → tower.target (row_at table r).state a ≡ Some y → controllable (tower.kind a) ≡ false → AllowsAction table r a

-- (c) In row r each allowed action is enabled and its target row has the state reached.
unfoldable pub StepsRight : Tower → Table → ℕ → Type 0
StepsRight tower table r =
    (a s : ℕ) → move table r a ≡ Some s → tower.target (row_at table r).state a ≡ Some (row_at table s).state

-- (d) In row r some action is allowed, of a kind that counts as going on: 1 or 2 (02, item 1).
unfoldable pub GoesOn : Tower → Table → ℕ → Type 0
GoesOn tower table r = (a : ℕ) × AllowsAction table r a × (goes_on (tower.kind a) ≡ true)

-- (e) No allowed run is broken.
unfoldable pub NoneBroken : Tower → Book → Table → Type 0
NoneBroken tower book table = (w : List ℕ) → Allows table w → Unbroken tower book w

-- A table is good for a tower and a book.
pub record Good (tower : Tower) (book : Book) (table : Table) : Type 0 where
  pub is_table : IsTable table
  pub a : GoodStart tower table
  pub b : (r : ℕ) → r < length table → NoneWithheld tower table r
  pub c : (r : ℕ) → r < length table → StepsRight tower table r
  pub d : (r : ℕ) → r < length table → GoesOn tower table r
  pub e : NoneBroken tower book table

-- Good tables allow a run under a book if some table that is good for the tower and this book allows it.
unfoldable pub GoodAllow : Tower → Book → List ℕ → Type 0
GoodAllow tower book w = (table : Table) × Good tower book table × Allows table w

-- ---- the made table

-- Rows with equal state and equal allowed runs onward are one row.
pub record OneRow (table : Table) (r s : ℕ) : Type 0 where
  pub state : (row_at table r).state ≡ (row_at table s).state
  pub runs : (w : List ℕ) → AllowsFrom table r w ↔ AllowsFrom table s w

-- actions strictly ascending
unfoldable pub Ascending : List Step → Type 0
Ascending [] = Unit {0}
Ascending (s ∷ []) = Unit {0}
Ascending (s ∷ t ∷ steps) = (s.action < t.action) × Ascending (t ∷ steps)

-- Reading the steps with m rows met so far, each target is one of them or the next; n rows are met at the end.
unfoldable pub Meets : ℕ → List Step → ℕ → Type 0
Meets m [] n = m ≡ n
Meets m (s ∷ steps) n = ((s.target < m) × Meets m steps n) ⊎ ((s.target ≡ m) × Meets (suc m) steps n)

-- The rows from number r on, read in order with m rows met before: each is met before it is read, and none is left over.
unfoldable pub FirstMet : ℕ → ℕ → List Row → Type 0
FirstMet r m [] = m ≡ r
FirstMet r m (row ∷ rows) = (r < m) × ((n : ℕ) × Meets m row.steps n × FirstMet (suc r) n rows)

-- The made table for a tower and a book: it holds exactly the runs that good tables allow; no two of its rows are one row;
-- row 0 is the start and the others are numbered as first met, rows in order, actions ascending.
pub record IsMade (tower : Tower) (book : Book) (table : Table) : Type 0 where
  pub good : Good tower book table
  pub runs : (w : List ℕ) → Allows table w ↔ GoodAllow tower book w
  pub apart : (r s : ℕ) → r < length table → s < length table → OneRow table r s → r ≡ s
  pub ascending : (r : ℕ) → r < length table → Ascending (row_at table r).steps
  pub first_met : FirstMet 0 1 table

-- ---- a table as a tower

-- A table as a tower: its rows are the states. A row has the marks of its state and the step lengths there, and an action leads to the row to
-- which it is allowed to lead.
unfoldable pub rows_tower : Tower → Table → Tower
rows_tower tower table =
    record {
      states = length table;
      actions = tower.actions;
      marks = tower.marks;
      start = 0;
      kind = tower.kind;
      step_length = λ r a. tower.step_length (row_at table r).state a;
      marked = λ r k. tower.marked (row_at table r).state k;
      target = λ r a. move table r a;
    }
