-- What the functions that follow a log promise: one line, where the last line ends, and the lines of some bytes.
use Rattle.std.specs.Prelude.{ℕ, suc, ◌+◌, ◌-◌, ◌*◌, ◌≤◌, ◌<◌, ◌≡◌, List, length, get_or}
use Rattle.std.specs.Prelude.{Some}
use Rattle.base.specs.Bytes.{byte_at}
use Rattle.logic.specs.Time.{position}
use Rattle.logic.specs.Tower.{tower_of}
use Rattle.logic.specs.Tables.{move}
use Rattle.logic.specs.declared.Position.{Position}
use Rattle.reading.specs.TableReading.{rows_of, table_of}
use Rattle.reading.specs.LogReading.{log_from}
use Rattle.reading.specs.declared.Stroke.{Stroke}
use Rattle.outcome.specs.Log.{next_place, fits_or_fails, next_course, course_along}
use Rattle.outcome.specs.declared.LogPlace.{LogPlace}
use Rattle.outcome.specs.Log.{Course}
use Rattle.std.specs.Prelude.{Ok}
use Rattle.log_lines.specs.Lines.{LineEnds}
use Rattle.log_course.specs.declared.Followed.{Followed}

-- There is room for the moves of all rows, and those that are noted are moves of the table: for row r and action a, at 16 r + a, the target row
-- and 1 more.
pub record Noted (table known : List ℕ) : Type 0 where
  pub room : length known ≡ 16000
  pub moves : (r a n : ℕ) → r < rows_of table → a < 16 → get_or known (16 * r + a) 0 ≡ suc n → move (table_of table) r a ≡ Some n

-- Where every line fits, the row is one of the table's.
pub record OnRow (table : List ℕ) (course : Course) : Type 0 where
  pub inside : (here : LogPlace) → course ≡ Ok here → here.row < rows_of table

-- A line from a place on.
pub record PlaceFollowed (r : Course) (tower table : List ℕ) (line : Position) (here : LogPlace) (s : Stroke) : Type 0 where
  pub answer : r ≡ fits_or_fails line here s (next_place (tower_of tower) (table_of table) here s)
  pub on_row : OnRow table r

-- One line more.
pub record LineFollowed (r : Course) (tower table : List ℕ) (line : Position) (course : Course) (s : Stroke) : Type 0 where
  pub answer : r ≡ next_course (tower_of tower) (table_of table) line course s
  pub on_row : OnRow table r

-- No byte 10 stands at p or behind it.
pub record NoEnd (p : ℕ) (log : List ℕ) : Type 0 where
  pub none_ahead : LineEnds log p → ⊥

-- The end of the last line that is ended: the position behind the last byte 10, or 0 where there is none.
pub record LastEnd (end : ℕ) (log : List ℕ) : Type 0 where
  pub inside : end ≤ length log
  pub behind : 1 ≤ end → byte_at log (end - 1) ≡ 10
  pub no_more : NoEnd end log

-- The lines of these bytes, the first with this number.
pub record LinesFollowed (r : Followed) (tower table log : List ℕ) (first : Position) (course : Course) : Type 0 where
  pub next : r.next ≡ (log_from log 0).next
  pub line : r.line ≡ position (first.0 + length (log_from log 0).strokes)
  pub answer : r.course ≡ course_along (tower_of tower) (table_of table) first course (log_from log 0).strokes
  pub on_row : OnRow table r.course
