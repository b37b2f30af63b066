-- A run as bytes, and what is judged of it: a byte for each node at each position, 1 where its formula is kept.
use Rattle.std.specs.Prelude.{ℕ, ◌+◌, ◌-◌, ◌*◌, ◌/◌, ◌%◌, ◌≤◌, ◌<◌, ◌≡◌, Bool, ◌⊎◌, List, map, length, set, eqb}
use Rattle.base.specs.Choice.{pick}
use Rattle.base.specs.Lists.{count_from}
use Rattle.base.specs.Bytes.{byte_at, number_at}
use Rattle.logic.specs.Time.{ticks, at_most}
use Rattle.logic.specs.Tower.{Tower, FitTower, tower_of, mask_of}
use Rattle.logic.specs.Book.{Formula, constant, proposition, and, or, next, always_for, until}
use Rattle.logic.specs.Runs.{Moment, Trace, duration}
use Rattle.logic.specs.declared.Tick.{Tick}
use Rattle.judging.specs.Judging.{judged}
use Rattle.judging.specs.Ahead.{never, comes_within, fails_ahead, ends_ahead}
use Rattle.std.specs.Prelude.{Option}
use Rattle.book_progression.specs.NodeBytes.{code_of, number_of, Stored, IsNode}

-- ---- the run

-- the most positions that are judged
abbrev pub position_room : ℕ
position_room = 1000

-- bytes for the states along the run, two for each position
abbrev pub states_size : ℕ
states_size = 2000

-- the state at position i
abbrev pub state_in : List ℕ → ℕ → ℕ
state_in states i = number_at 2 states (2 * i)

-- position i: its state, and the action that leaves it
unfoldable pub moment_in : List ℕ → List ℕ → ℕ → Moment
moment_in run states i = record { state = state_in states i; action = byte_at run i }

-- what is left from position i on of a run of n actions
unfoldable pub rest_in : List ℕ → List ℕ → ℕ → ℕ → Trace
rest_in run states n i = map (moment_in run states) (count_from i (n - i))

-- The first n bytes are actions of the tower, the states are its states.
pub record RunHeld (tower run states : List ℕ) (n : ℕ) : Type 0 where
  pub fit : FitTower tower
  pub few : n ≤ position_room
  pub run_room : n ≤ length run
  pub states_room : states_size ≤ length states
  pub states_low : (i : ℕ) → i < n → state_in states i < (tower_of tower).states
  pub actions_low : (i : ℕ) → i < n → byte_at run i < (tower_of tower).actions

-- ---- what its positions show

-- bytes for that, one for each position of each: the marks below 8, behind them those from 8 on, and the lengths of the steps
abbrev pub high_marks_at : ℕ
high_marks_at = 1000

abbrev pub lengths_at : ℕ
lengths_at = 2000

abbrev pub marks_size : ℕ
marks_size = 3000

-- the mask of the state at position i
abbrev pub mask_in : List ℕ → List ℕ → ℕ → ℕ
mask_in tower states i = mask_of tower (state_in states i)

-- the length of the step that leaves it
abbrev pub length_in : List ℕ → List ℕ → List ℕ → ℕ → Tick
length_in tower run states i = duration (tower_of tower) (moment_in run states i)

-- the same bytes with what position i shows
unfoldable pub with_moment : List ℕ → List ℕ → List ℕ → ℕ → List ℕ → List ℕ
with_moment tower run states i marks =
    set (set (set marks i (mask_in tower states i % 256)) (high_marks_at + i) (mask_in tower states i / 256 % 256)) (lengths_at + i)
    (length_in tower run states i).0

-- The bytes are what position i shows.
pub record MomentMarked (tower run states marks : List ℕ) (i : ℕ) : Type 0 where
  pub low : byte_at marks i ≡ mask_in tower states i % 256
  pub high : byte_at marks (high_marks_at + i) ≡ mask_in tower states i / 256 % 256
  pub step : ticks (byte_at marks (lengths_at + i)) ≡ length_in tower run states i

-- They are for every position of the run.
pub record RunMarked (tower run states marks : List ℕ) (n : ℕ) : Type 0 where
  pub held : RunHeld tower run states n
  pub room : marks_size ≤ length marks
  pub at : (i : ℕ) → i < n → MomentMarked tower run states marks i

-- Node k is a mark, wanted or not, and bit m of the bytes that begin at `from` shows it.
pub record MarkShown (nodes : List ℕ) (k from m : ℕ) (wanted : Bool) : Type 0 where
  pub low : 1 < code_of nodes k
  pub high : code_of nodes k ≤ 3
  pub is_wanted : wanted ≡ eqb (code_of nodes k) 3
  pub small : m < 8
  pub shown : ((from ≡ 0) × (number_of nodes k ≡ m)) ⊎ ((from ≡ high_marks_at) × (number_of nodes k ≡ 8 + m))

-- ---- what is judged

-- bytes for all nodes at all positions
abbrev pub kept_size : ℕ
kept_size = 60000

-- the byte of node k at position i
abbrev pub kept_in : List ℕ → ℕ → ℕ → ℕ
kept_in kept k i = byte_at kept (position_room * k + i)

-- 1 where a formula is kept
abbrev pub kept_byte : Bool → ℕ
kept_byte b = pick b (λ _. 1) (λ _. 0)

-- Node k is judged at the positions from i on.
pub record NodeJudged (tower nodes run states : List ℕ) (n k i : ℕ) (kept : List ℕ) : Type 0 where
  pub says : (f : Formula) → Stored nodes f k → (j : ℕ) → i ≤ j → j < n
      → kept_in kept k j ≡ kept_byte (judged (tower_of tower) f (rest_in run states n j))

-- The nodes below node k are judged everywhere.
pub record NodesJudged (tower nodes run states : List ℕ) (n k : ℕ) (kept : List ℕ) : Type 0 where
  pub says : (j : ℕ) → j < k → NodeJudged tower nodes run states n j 0 kept

-- What is asked before node k is judged: those below it are.
pub record NodeNext (tower nodes run states marks : List ℕ) (n k : ℕ) (kept : List ℕ) : Type 0 where
  pub marked : RunMarked tower run states marks n
  pub node : IsNode nodes k
  pub low : k < 60
  pub room : kept_size ≤ length kept
  pub below : NodesJudged tower nodes run states n k kept

-- what a formula waits for from the first position of what is left of a run
unfoldable pub waits_for : Tower → Formula → Trace → Option Tick
waits_for tower (constant b) run = never
waits_for tower (proposition w k) run = never
waits_for tower (and f g) run = never
waits_for tower (or f g) run = never
waits_for tower (next c t g) run = never
waits_for tower (always_for t g) run = fails_ahead tower (judged tower g) run
waits_for tower (until t f g) run = ends_ahead tower (judged tower f) (judged tower g) run

-- later than any bound
abbrev pub never_far : Tick
never_far = ticks 65536

-- So far ahead it comes, as every bound sees it: within the bound, or not.
pub record ComesIn (far : Tick) (ahead : Option Tick) : Type 0 where
  pub says : (t : Tick) → t.0 ≤ 254 → at_most far t ≡ comes_within ahead t

-- So far ahead of position i comes what node k waits for.
pub record NodeWaits (far : Tick) (tower nodes run states : List ℕ) (n k i : ℕ) : Type 0 where
  pub says : (f : Formula) → Stored nodes f k → ComesIn far (waits_for (tower_of tower) f (rest_in run states n i))
  pub bound : far.0 ≤ 65536 * (n - i + 1)

-- Whether node k is kept at position i.
pub record KeptHere (b : Bool) (tower nodes run states : List ℕ) (n k i : ℕ) : Type 0 where
  pub says : (f : Formula) → Stored nodes f k → b ≡ judged (tower_of tower) f (rest_in run states n i)
