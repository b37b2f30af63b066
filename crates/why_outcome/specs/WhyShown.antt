-- What an answer with a run shows, each sentence of 02, item 4, for itself: the tower, the book and the table come out of the files, since an answer
-- says that the files were fit.
use Rattle.std.specs.Prelude.{ℕ, ◌≤◌, ◌<◌, ◌≡◌, List, ◌++◌, length, drop}
use Rattle.logic.specs.Time.{position}
use Rattle.logic.specs.Tower.{Tower}
use Rattle.logic.specs.Book.{Book}
use Rattle.logic.specs.Runs.{trace, Unbroken, Broken}
use Rattle.logic.specs.Tables.{Table, Allows}
use Rattle.logic.specs.Why.{Lower, rule_at, KeptLine, BrokenAt}
use Rattle.outcome.specs.Calls.{FitFiles, FitTable}

-- A run of n actions in the front of the list, line k and position p.
pub record ShownWell (tower_file text file list list_after : List ℕ) (n k p : ℕ) : Type 0 where
  pub tower : Tower
  pub book : Book
  pub table : Table
  pub fit : FitFiles tower_file text tower book
  pub laid : FitTable tower file table
  pub run : List ℕ
  -- 'The run goes to a lent list, whose later bytes stay; here and later, the answer gives the length of such a run.'
  pub size : length run ≡ n
  pub written : list_after ≡ run ++ drop n list
  -- the run is allowed and broken;
  pub allowed : Allows table run
  pub broken : Broken tower book run
  -- no shorter allowed run is;
  pub shortest : (v : List ℕ) → Allows table v → Broken tower book v → length v < length run → ⊥
  -- none of its length that is broken comes before it;
  pub first : (v : List ℕ) → Allows table v → Broken tower book v → length v ≡ length run → Lower v run → ⊥
  -- so that it is broken by its last action: every shorter beginning of it is unbroken.
  pub beginnings : (u v : List ℕ) → run ≡ u ++ v → 0 < length v → Unbroken tower book u
  -- It has 1 to 1,000 actions.
  pub some_action : 0 < n
  pub few_actions : n ≤ 1000
  -- The line is broken by this run, and no lower one is;
  pub line : k < length book
  pub line_broken : KeptLine tower book run k → ⊥
  pub lower_kept : (j : ℕ) → j < k → KeptLine tower book run j
  -- where it is an `always` line the formula is not kept at the position, and at every lower one it is; for a `start` line the position is 0.
  pub place : BrokenAt tower (trace tower run) (rule_at book k).form (rule_at book k).formula (position p)
