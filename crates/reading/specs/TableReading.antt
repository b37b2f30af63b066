-- 01, 'Good tables', from 'Table file' on: the fields of a table file, when bytes are laid out as one, and the table that they hold.
use Rattle.std.specs.Prelude.{ℕ, zero, suc, ◌+◌, ◌*◌, Bool, true, ◌&&◌, not, List, map, length, leb, ltb, eqb}
use Rattle.base.specs.Lists.{below, count_from}
use Rattle.base.specs.Bytes.{byte_at, number_at}
use Rattle.base.specs.Answers.{Answer, ◌if◌else◌}
use Rattle.std.specs.Prelude.{Ok}
use Rattle.base.specs.declared.Refusal.TheVariants.{Layout}
use Rattle.logic.specs.declared.FileLayout.{FileLayout}
use Rattle.logic.specs.Tower.{Tower, most_actions, in_range, narrow}
use Rattle.logic.specs.Tables.{Step, Row, Table}
use Rattle.logic.specs.TableFile.{most_rows, rows_at, row_size, step_size, steps_at}

-- ---- the header: rows, steps, offset of rows, offset of steps, S, A

abbrev pub rows_of : List ℕ → ℕ
rows_of bytes = number_at 2 bytes 0

abbrev pub steps_of : List ℕ → ℕ
steps_of bytes = number_at 2 bytes 2

abbrev pub table_states : List ℕ → ℕ
table_states bytes = number_at 2 bytes 8

abbrev pub table_actions : List ℕ → ℕ
table_actions bytes = number_at 2 bytes 10

-- the layout of a table file: here every file has the same
unfoldable pub table_layout : List ℕ → FileLayout
table_layout bytes = narrow

-- ---- row r: its state, step count and first step

unfoldable pub row_place : List ℕ → ℕ → ℕ
row_place bytes r = rows_at + row_size (table_layout bytes) * r

unfoldable pub row_state : List ℕ → ℕ → ℕ
row_state bytes r = number_at (table_layout bytes).width bytes (row_place bytes r)

unfoldable pub row_count : List ℕ → ℕ → ℕ
row_count bytes r = byte_at bytes (row_place bytes r + (table_layout bytes).width)

unfoldable pub row_first : List ℕ → ℕ → ℕ
row_first bytes r = number_at 2 bytes (row_place bytes r + (table_layout bytes).width + 1)

-- ---- step i, counted from 0 over all steps: its action and target row

unfoldable pub step_place : List ℕ → ℕ → ℕ
step_place bytes i = steps_at (table_layout bytes) (rows_of bytes) + step_size * i

unfoldable pub step_action : List ℕ → ℕ → ℕ
step_action bytes i = byte_at bytes (step_place bytes i)

unfoldable pub step_target : List ℕ → ℕ → ℕ
step_target bytes i = number_at 2 bytes (step_place bytes i + 1)

-- ---- the layout

-- the header is whole, its counts are in range, its offsets are right, and nothing follows the last step
unfoldable pub header_right : List ℕ → Bool
header_right bytes =
    leb rows_at (length bytes)
    && in_range most_rows (rows_of bytes)
    && eqb (number_at 2 bytes 4) rows_at
    && eqb (number_at 2 bytes 6) (steps_at (table_layout bytes) (rows_of bytes))
    && in_range (table_layout bytes).most (table_states bytes)
    && in_range most_actions (table_actions bytes)
    && eqb (length bytes) (step_place bytes (steps_of bytes))

-- n steps from step i on: actions strictly ascending, from `low` or above, and below A; targets below rows
unfoldable pub steps_right : List ℕ → ℕ → ℕ → ℕ → Bool
steps_right bytes low i zero = true
steps_right bytes low i (suc n) =
    leb low (step_action bytes i)
    && ltb (step_action bytes i) (table_actions bytes)
    && ltb (step_target bytes i) (rows_of bytes)
    && steps_right bytes (step_action bytes i + 1) (i + 1) n

-- n rows from row r on, with `first` steps before them: states below S, steps packed in row order; the header gives their sum
unfoldable pub rows_right : List ℕ → ℕ → ℕ → ℕ → Bool
rows_right bytes first r zero = eqb first (steps_of bytes)
rows_right bytes first r (suc n) =
    ltb (row_state bytes r) (table_states bytes)
    && eqb (row_first bytes r) first
    && steps_right bytes 0 first (row_count bytes r)
    && rows_right bytes (first + row_count bytes r) (r + 1) n

-- The bytes are laid out as a table file.
unfoldable pub laid_out : List ℕ → Bool
laid_out bytes = header_right bytes && rows_right bytes 0 0 (rows_of bytes)

-- ---- the table

unfoldable pub step_of : List ℕ → ℕ → Step
step_of bytes i = record { action = step_action bytes i; target = step_target bytes i }

unfoldable pub row_of_table : List ℕ → ℕ → Row
row_of_table bytes r =
    record { state = row_state bytes r; steps = map (step_of bytes) (count_from (row_first bytes r) (row_count bytes r)) }

-- the table that laid out bytes hold
unfoldable pub table_of : List ℕ → Table
table_of bytes = map (row_of_table bytes) (below (rows_of bytes))

-- 13: not laid out so, or its S, A not the tower's
unfoldable pub read_table : Tower → List ℕ → Answer Table
read_table tower bytes =
    Layout if not (laid_out bytes) else
    Layout if not (eqb (table_states bytes) tower.states && eqb (table_actions bytes) tower.actions) else
    Ok (table_of bytes)
