-- What is promised of a part: what is left of it stands at its start, and the next part goes on from a row of the table.
use Rattle.std.specs.Prelude.{ℕ, ◌+◌, ◌-◌, ◌≤◌, ◌<◌, ◌≡◌, ◌⊎◌, List, length, take}
use Rattle.base.specs.Bytes.{byte_at}
use Rattle.logic.specs.declared.Position.{Position}
use Rattle.outcome.specs.Log.{Course}
use Rattle.log_course.specs.Following.{OnRow}
use Rattle.log_course.specs.declared.Followed.{Followed}
use Rattle.program_log.specs.declared.Part.{Part}

-- The bytes from one place to another have been moved to the start.
pub record Kept (count from end : ℕ) (before after : List ℕ) : Type 0 where
  pub all : count ≡ end - from
  pub moved : (j : ℕ) → j < count → byte_at after j ≡ byte_at before (from + j)

-- Where reading goes on, what is held is inside the part and the row is one of the table's.
pub record GoesOn (r : Part) (table : List ℕ) : Type 0 where
  pub inside : (held : ℕ) (line : Position) (course : Course) → r ≡ Part.On held line course → held ≤ 65536
  pub on_row : (held : ℕ) (line : Position) (course : Course) → r ≡ Part.On held line course → OnRow table course

-- Where the answer is known, the bytes that were read last stand at the start of the part. Either the log has ended, or what is left is more than
-- any line: nothing that follows would change the answer (`whatever_follows`, log_course/proofs/Parts.antt).
pub record InPart (r : Part) (part : List ℕ) : Type 0 where
  pub read : (followed : Followed) (bytes : ℕ) → r ≡ Part.Over followed bytes → bytes ≡ length (take bytes part)
  pub known : (followed : Followed) (bytes : ℕ) → r ≡ Part.Over followed bytes → (bytes < 65536) ⊎ (14 ≤ bytes - followed.next)
