-- 02, item 2, in the words of the logic: the lines of a log as a run of a table, and the first line that is none of it.
use Rattle.std.specs.Prelude.{ℕ, suc, ◌<◌, ◌≡◌, List, map, length, get_or, take}
use Rattle.std.specs.Prelude.{Some}
use Rattle.logic.specs.Time.{ticks, plus, after}
use Rattle.logic.specs.Tower.{Tower}
use Rattle.logic.specs.Runs.{leads, trace, moment, Judged, duration}
use Rattle.logic.specs.Tables.{Table, move}
use Rattle.logic.specs.declared.Position.{Position}
use Rattle.reading.specs.declared.Stroke.{Stroke}

-- the actions of the lines, in order
unfoldable pub logged_actions : List Stroke → List ℕ
logged_actions strokes = map (λ s. s.action) strokes

-- the line of the action that leaves position i
unfoldable pub line_of : List Stroke → Position → Stroke
line_of strokes i = get_or strokes i.0 (record { tick = ticks 0; action = 0 })

-- The log is a run of the table from row 0 on, which ends in row r, and each tick is the one before plus the length of the step before.
pub record LoggedRun (tower : Tower) (table : Table) (strokes : List Stroke) (r : ℕ) : Type 0 where
  pub run : leads (move table) 0 (logged_actions strokes) ≡ Some r
  pub times : (i : Position) → Judged (trace tower (logged_actions strokes)) (after i)
      → (line_of strokes (after i)).tick ≡ plus (line_of strokes i).tick (duration tower (moment (trace tower (logged_actions strokes)) i))

-- Line n is the first that does not fit: the lines before it are such a run, and with it they are none.
pub record FirstMisfit (tower : Tower) (table : Table) (strokes : List Stroke) (n : Position) : Type 0 where
  pub inside : n.0 < length strokes
  pub before : (r : ℕ) × LoggedRun tower table (take n.0 strokes) r
  pub with_it : (r : ℕ) → LoggedRun tower table (take (suc n.0) strokes) r → ⊥
