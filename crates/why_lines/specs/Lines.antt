-- What the functions of this crate promise: the run of the tower as bytes, where a line fails, and the lowest line that does.
use Rattle.std.specs.Prelude.{ℕ, ◌≤◌, ◌<◌, ◌≡◌, Bool, true, false, not, eqb, List, length, take, Option, Some, None}
use Rattle.logic.specs.declared.Position.{Position}
use Rattle.logic.specs.Tower.{FitTower, tower_of}
use Rattle.logic.specs.Runs.{trace, IsRun}
use Rattle.logic.specs.Why.{rule_at}
use Rattle.judging.specs.Judging.{judged_rule, lowest_line, broken_place}
use Rattle.reading.specs.BookArea.{nodes_in}
use Rattle.book_progression.specs.NodeBytes.{IsHeld}
use Rattle.why_judging.specs.Judgement.{position_room, kept_size, kept_in, rest_in, RunHeld, NodesJudged}
use Rattle.why_lines.specs.declared.Place.{Place}

-- ---- the run

-- The same, and it is the run of the tower by these actions.
pub record RunNoted (tower run states : List ℕ) (n : ℕ) : Type 0 where
  pub held : RunHeld tower run states n
  pub is : rest_in run states n 0 ≡ trace (tower_of tower) (take n run)

-- What is asked of a run that is judged: a book, and a run of the tower of 1 to 1,000 actions.
pub record RunGiven (tower nodes run : List ℕ) (n : ℕ) : Type 0 where
  pub fit : FitTower tower
  pub held : IsHeld nodes
  pub some_position : 0 < n
  pub few : n ≤ position_room
  pub run_room : n ≤ length run
  pub is : IsRun (tower_of tower) (take n run)

-- What is asked before lines are looked at: all nodes are judged, and some position is.
pub record LinesReady (tower nodes run states : List ℕ) (n : ℕ) (kept : List ℕ) : Type 0 where
  pub some_position : 0 < n
  pub held : IsHeld nodes
  pub room : kept_size ≤ length kept
  pub all : NodesJudged tower nodes run states n (nodes_in nodes) kept

-- ---- the line and the position

-- node k is not kept at position i, as it was judged
abbrev pub fails_in : List ℕ → ℕ → ℕ → Bool
fails_in kept k i = not (eqb (kept_in kept k i) 1)

-- It is kept at each position before i.
pub record KeptBefore (kept : List ℕ) (k i : ℕ) : Type 0 where
  pub before : (j : ℕ) → j < i → fails_in kept k j ≡ false

-- The lowest of n positions where node k is not kept, if there is one.
pub data FirstFailing (kept : List ℕ) (n k : ℕ) : Option Position → Type 0 where
  kept_everywhere : KeptBefore kept k n → FirstFailing kept n k None
  first_at : (at : Position) → at.0 < n → fails_in kept k at.0 ≡ true → KeptBefore kept k at.0 → FirstFailing kept n k (Some at)

-- The position at which line l fails, if it is broken.
pub data LineFails (tower nodes run states : List ℕ) (n l : ℕ) : Option Position → Type 0 where
  line_kept : ((h : IsHeld nodes)
      → judged_rule (tower_of tower) (rest_in run states n 0) (rule_at h.book l).form (rule_at h.book l).formula ≡ true)
      → LineFails tower nodes run states n l None
  line_broken : (at : Position)
      → ((h : IsHeld nodes) → judged_rule (tower_of tower) (rest_in run states n 0) (rule_at h.book l).form (rule_at h.book l).formula ≡ false)
      → ((h : IsHeld nodes) → at ≡ broken_place (tower_of tower) (rest_in run states n 0) (rule_at h.book l).form (rule_at h.book l).formula)
      → LineFails tower nodes run states n l (Some at)

-- The lowest line that the run breaks, and where; past the last line if it breaks none.
pub record RunJudged (r : Place) (tower nodes run : List ℕ) (n : ℕ) : Type 0 where
  pub line : (h : IsHeld nodes) → r.line ≡ lowest_line (tower_of tower) h.book (take n run)
  pub place : (h : IsHeld nodes) → r.line < length h.book
      → r.position ≡ broken_place (tower_of tower) (trace (tower_of tower) (take n run)) (rule_at h.book r.line).form (rule_at h.book r.line).formula
