-- The follower in the words of the logic: when it is to answer a row, and a chain of its calls.
use Rattle.std.specs.Prelude.{ℕ, ◌<◌, ◌≡◌, true, List, [], ◌∷◌}
use Rattle.std.specs.Prelude.{Some}
use Rattle.std.specs.Prelude.{Ok}
use Rattle.logic.specs.Tables.{move}
use Rattle.reading.specs.TableReading.{laid_out, rows_of, table_actions, table_of}
use Rattle.outcome.specs.Follow.{follow_outcome}

-- The bytes are laid out as a table, the row and the action lie inside it, and it allows that action there with target row s.
pub record FollowsTo (file : List ℕ) (row action s : ℕ) : Type 0 where
  pub laid : laid_out file ≡ true
  pub row_inside : row < rows_of file
  pub action_inside : action < table_actions file
  pub moves : move (table_of file) row action ≡ Some s

-- A chain of calls, each given the row that the last one answered: from row r the follower is asked for each action in turn, answers a row each
-- time, and ends in row s.
unfoldable pub Chain : List ℕ → ℕ → List ℕ → ℕ → Type 0
Chain file r [] s = r ≡ s
Chain file r (a ∷ w) s = (q : ℕ) × (follow_outcome file r a ≡ Ok q) × Chain file q w s
