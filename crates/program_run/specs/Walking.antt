-- A walk along a run that is held as bytes.
use Rattle.std.specs.Prelude.{ℕ, ◌*◌, ◌≤◌, ◌<◌, ◌≡◌, List, length, take}
use Rattle.std.specs.Prelude.{unwrap_or}
use Rattle.logic.specs.Tower.{Tower, FitTower, tower_of}
use Rattle.logic.specs.Runs.{leads, IsRun, trace, time_at}
use Rattle.logic.specs.declared.Position.{Position}
use Rattle.program_run.specs.declared.Point.{Point}

-- The first n bytes of the list are the actions of a run of the tower, at most 1,000.
pub record RunInList (tower run : List ℕ) (n : ℕ) : Type 0 where
  pub fit : FitTower tower
  pub few : n ≤ 1000
  pub room : n ≤ length run
  pub is : IsRun (tower_of tower) (take n run)

-- position i of a run, with T(i) and the state to which the i actions before it lead
unfoldable pub point_at : Tower → List ℕ → Position → Point
point_at tower w i =
    record {
      position = i;
      time = time_at tower (trace tower w) i;
      state = unwrap_or (leads tower.target tower.start (take i.0 w)) tower.start;
    }

-- The point is that of position i; its state is one of the tower's, and no step takes more than 65,536 ticks.
pub record OnRun (p : Point) (tower run : List ℕ) (n : ℕ) (i : Position) : Type 0 where
  pub is : p ≡ point_at (tower_of tower) (take n run) i
  pub inside : i.0 ≤ n
  pub low : p.state < (tower_of tower).states
  pub soon : p.time.0 ≤ 65536 * i.0
