-- The follower's outcome: 13 by the table's own header, 17, 18, or the target row. It borrows no area.
use Rattle.std.specs.Prelude.{ℕ, not, ◌||◌, List, leb}
use Rattle.std.specs.Prelude.{Option, None, Some}
use Rattle.base.specs.Answers.{Answer, ◌if◌else◌}
use Rattle.std.specs.Prelude.{Err, Ok}
use Rattle.base.specs.declared.Refusal.TheVariants.{Layout, Outside, NotAllowed}
use Rattle.base.specs.Answers.{FollowAnswer}
use Rattle.logic.specs.Tables.{move}
use Rattle.reading.specs.TableReading.{laid_out, rows_of, table_actions, table_of}

-- 18: the action is not allowed there
unfoldable pub stepped : Option ℕ → Answer ℕ
stepped None = Err NotAllowed
stepped (Some row) = Ok row

-- the row that an action leads to
unfoldable pub row_after : List ℕ → ℕ → ℕ → Answer ℕ
row_after table row action =
    Layout if not (laid_out table) else
    Outside if leb (rows_of table) row || leb (table_actions table) action else
    stepped (move (table_of table) row action)

unfoldable pub follow_answer : Answer ℕ → FollowAnswer
follow_answer (Err r) = Err r
follow_answer (Ok row) = Ok row

unfoldable pub follow_outcome : List ℕ → ℕ → ℕ → FollowAnswer
follow_outcome table row action = follow_answer (row_after table row action)
