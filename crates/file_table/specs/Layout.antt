-- The parts of the layout that the reader tests in functions of their own: the counts and the places of the header, one step, one row.
use Rattle.std.specs.Prelude.{ℕ, Bool, ◌&&◌, List, length, leb, ltb, eqb}
use Rattle.base.specs.Bytes.{number_at}
use Rattle.logic.specs.Tower.{most_actions, in_range}
use Rattle.logic.specs.TableFile.{most_rows, rows_at, steps_at}
use Rattle.reading.specs.TableReading.{rows_of, steps_of, table_states, table_actions, table_layout, row_state, row_count, row_first, step_place, step_action, step_target, steps_right, laid_out}

-- the header's counts: rows, S and A are in range
unfoldable pub counts_right : List ℕ → Bool
counts_right bytes =
    in_range most_rows (rows_of bytes) && in_range (table_layout bytes).most (table_states bytes) && in_range most_actions (table_actions bytes)

-- the header's offsets are right
unfoldable pub offsets_right : List ℕ → Bool
offsets_right bytes = eqb (number_at 2 bytes 4) rows_at && eqb (number_at 2 bytes 6) (steps_at (table_layout bytes) (rows_of bytes))

-- the header's offsets are right, and nothing follows the last step
unfoldable pub places_right : List ℕ → Bool
places_right bytes = offsets_right bytes && eqb (length bytes) (step_place bytes (steps_of bytes))

-- step i: the action is from `low` or above and below A, the target below rows
unfoldable pub step_right : List ℕ → ℕ → ℕ → Bool
step_right bytes low i =
    leb low (step_action bytes i)
    && ltb (step_action bytes i) (table_actions bytes)
    && ltb (step_target bytes i) (rows_of bytes)

-- row r, with `first` steps before it: the state is below S, the steps are packed and right
unfoldable pub row_right : List ℕ → ℕ → ℕ → Bool
row_right bytes first r =
    ltb (row_state bytes r) (table_states bytes)
    && eqb (row_first bytes r) first
    && steps_right bytes 0 first (row_count bytes r)

-- laid out, with the S and A of a tower
unfoldable pub laid_out_for : List ℕ → ℕ → ℕ → Bool
laid_out_for bytes s a = laid_out bytes && (eqb (table_states bytes) s && eqb (table_actions bytes) a)
