-- 01, 'Good tables', from 'Table file' on: a table as bytes.
use Rattle.std.specs.Prelude.{ℕ, ◌+◌, ◌*◌, List, [], ◌∷◌, ◌++◌, map, length}
use Rattle.base.specs.Lists.{joined}
use Rattle.base.specs.Bytes.{number_bytes}
use Rattle.logic.specs.declared.FileLayout.{FileLayout}
use Rattle.logic.specs.Tables.{Step, Row, Table}

-- the most rows of a file
unfoldable pub most_rows : ℕ
most_rows = 1000

-- where the rows begin: the header is six two-byte numbers
unfoldable pub rows_at : ℕ
rows_at = 12

-- bytes of a row: the state, the step count and a two-byte first step
unfoldable pub row_size : FileLayout → ℕ
row_size layout = layout.width + 3

-- bytes of a step: the action and a two-byte target row
unfoldable pub step_size : ℕ
step_size = 3

-- where the steps begin, in a file of so many rows
unfoldable pub steps_at : FileLayout → ℕ → ℕ
steps_at layout rows = rows_at + row_size layout * rows

-- all steps, packed in row order
unfoldable pub all_steps : Table → List Step
all_steps table = joined (map (λ row. row.steps) table)

-- a step's three bytes
unfoldable pub step_bytes : Step → List ℕ
step_bytes s = number_bytes 1 s.action ++ number_bytes 2 s.target

-- the rows' bytes; the first step counts from 0 over all steps
unfoldable pub row_bytes : FileLayout → ℕ → List Row → List ℕ
row_bytes layout first [] = []
row_bytes layout first (row ∷ rows) =
    number_bytes layout.width row.state
    ++ (number_bytes 1 (length row.steps) ++ (number_bytes 2 first ++ row_bytes layout (first + length row.steps) rows))

-- the six numbers of the header
unfoldable pub header_bytes : FileLayout → ℕ → ℕ → ℕ → ℕ → List ℕ
header_bytes layout rows steps states actions =
    joined (map (number_bytes 2) (rows ∷ steps ∷ rows_at ∷ steps_at layout rows ∷ states ∷ actions ∷ []))

-- the file of a table for a tower with so many states and actions, whose file has this layout
unfoldable pub table_file : FileLayout → ℕ → ℕ → Table → List ℕ
table_file layout states actions table =
    header_bytes layout (length table) (length (all_steps table)) states actions
    ++ (row_bytes layout 0 table ++ joined (map step_bytes (all_steps table)))
