-- What the rows of a table make of it: the first of the reasons a to d, in the checker's order (01, 'Good tables' and 'Why a call is
-- turned down').
use Rattle.std.specs.Prelude.{ℕ, ◌≡◌, Bool, true, List, [], ◌∷◌, length}
use Rattle.base.specs.Choice.{pick}
use Rattle.base.specs.Lists.{some_of, below}
use Rattle.base.specs.Answers.{Answer}
use Rattle.std.specs.Prelude.{Ok}
use Rattle.base.specs.declared.Reason.TheVariants.{Start, Withheld, WrongStep, Stopped}
use Rattle.logic.specs.Tower.{Tower, FitTower, tower_of}
use Rattle.logic.specs.Tables.{Table, row_at}
use Rattle.reading.specs.TableReading.{laid_out, table_states, table_actions}
use Rattle.outcome.specs.Check.{Finding, not_good, wrong_start, withheld, wrong_step, stopped}
use Rattle.std.specs.Prelude.{Result, Err}
use Rattle.base.specs.declared.Reason.{Reason}

-- The files that the judge is given: a fit tower, and a table that is laid out for it.
pub record RowsJudgeable (tower table : List ℕ) : Type 0 where
  pub fit : FitTower tower
  pub layout : laid_out table ≡ true
  pub states : table_states table ≡ (tower_of tower).states
  pub actions : table_actions table ≡ (tower_of tower).actions

-- (b) in row r: some action is withheld
unfoldable pub some_withheld : Tower → Table → ℕ → Bool
some_withheld tower table r = some_of (withheld tower table r) (below tower.actions)

-- (c) in row r: some step is wrong
unfoldable pub some_wrong_step : Tower → Table → ℕ → Bool
some_wrong_step tower table r = some_of (wrong_step tower table r) (row_at table r).steps

-- the first reason of row r, in the order b, c, d; or what comes after
unfoldable pub row_verdict : Tower → Table → ℕ → Result (Unit {0}) Reason → Result (Unit {0}) Reason
row_verdict tower table r after =
    pick (some_withheld tower table r) (λ _. Err (Withheld r)) (λ _.
    pick (some_wrong_step tower table r) (λ _. Err (WrongStep r)) (λ _.
    pick (stopped tower table r) (λ _. Err (Stopped r)) (λ _. after)))

-- the rows in turn
unfoldable pub rows_from : Tower → Table → List ℕ → Result (Unit {0}) Reason
rows_from tower table [] = Ok tt
rows_from tower table (r ∷ rs) = row_verdict tower table r (rows_from tower table rs)

-- a; then b to d by row
unfoldable pub rows_verdict : Tower → Table → Result (Unit {0}) Reason
rows_verdict tower table =
    pick (wrong_start tower table) (λ _. Err Start) (λ _. rows_from tower table (below (length table)))

-- the checker's answer, from what the rows make of the table and what comes after them
unfoldable pub answer_after : Result (Unit {0}) Reason → Answer Finding → Answer Finding
answer_after (Ok tt) after = after
answer_after (Err reason) after = Ok (not_good reason)
