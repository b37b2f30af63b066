-- 02, item 2: what the log reader says of short logs along the small tower's table of outcome 1. Some of it changes if a definition slips.
use Rattle.std.specs.Prelude.{ℕ, ◌≡◌, List, [], ◌∷◌, map, take}
use Prim.Native.String.{String}
use Rattle.base.specs.Text.{byte, ascii}
use Rattle.base.specs.Answers.{Said, answered, refused, log_said}
use Rattle.outcome.specs.Log.{log_outcome}
use Rattle.outcome.specs.SmallTower.{small_tower, table_1}
use Rattle.outcome.specs.RefusalTable.{no_step, with_target}

-- what is said of a tower, a table and a log
unfoldable pub said_of : List ℕ → List ℕ → String → Said
said_of tower table log = log_said (log_outcome tower table (ascii log))

-- every line fits, and this is the final row
abbrev pub ends_in : ℕ → Said
ends_in row = answered (0 ∷ row ∷ [])

-- this is the first line that does not fit
abbrev pub misfit_at : ℕ → Said
misfit_at line = answered (1 ∷ line ∷ [])

-- logs, each with what is said of it
unfoldable pub short_logs : List (String × Said)
short_logs =
    -- no line; the first tick is free
    ("", ends_in 0)
    ∷ ("5 0\n", ends_in 1)
    ∷ ("4294967295 0\n", ends_in 1)
    -- every action of the small tower lasts one tick
    ∷ ("5 0\n6 1\n7 2\n", ends_in 2)
    ∷ ("5 0\n6 1\n8 2\n", misfit_at 2)
    ∷ ("5 0\n5 1\n", misfit_at 1)
    -- row 3 does not allow action 0; actions outside the table
    ∷ ("5 0\n6 1\n7 0\n", misfit_at 2)
    ∷ ("5 4\n", misfit_at 0)
    ∷ ("5 99\n", misfit_at 0)
    -- the first of two misfits
    ∷ ("5 0\n6 0\n6 0\n", misfit_at 1)
    -- sums never wrap
    ∷ ("4294967295 0\n4294967295 1\n", misfit_at 1)
    ∷ ("4294967295 0\n0 1\n", misfit_at 1)
    -- zeros in front, ten digits and two
    ∷ ("0000000005 00\n6 01\n", ends_in 3)
    -- 19: a tick too high, too many digits, a line that is not ended, two spaces; before any misfit
    ∷ ("4294967296 0\n", refused 19 0 [])
    ∷ ("00000000005 0\n", refused 19 0 [])
    ∷ ("5 000\n", refused 19 0 [])
    ∷ ("5 0\n6 1", refused 19 1 [])
    ∷ ("5 0\n\n", refused 19 1 [])
    ∷ ("5 9\n6  1\n", refused 19 1 [])
    ∷ []

-- The answers.
pub record LogTable : Type 0 where
  pub along : map (λ l. said_of small_tower table_1 l.0) short_logs ≡ map (λ l. l.1) short_logs
  -- tower and table come before the log: 1, 13, 14
  pub tower_first : said_of (take 7 small_tower) [] "?" ≡ refused 1 0 []
  pub layout_first : said_of small_tower (with_target 5) "?" ≡ refused 13 0 []
  pub reason_first : said_of small_tower no_step "?" ≡ refused 14 0 (byte "d" ∷ [])
