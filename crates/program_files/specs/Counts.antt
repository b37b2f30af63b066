-- How far reading has come.
use Rattle.std.specs.Prelude.{ℕ, ◌≤◌, ◌≡◌, List, length, take, Option, Some}

-- n counts bytes at the start of the area; the second part follows from the first
pub record Counts (n : ℕ) (area : List ℕ) : Type 0 where
  pub within : n ≤ length area
  pub taken : n ≡ length (take n area)

-- What was read stands at the start of the area.
pub record HoldsContents (contents : Option ℕ) (area : List ℕ) : Type 0 where
  pub counts : (n : ℕ) → contents ≡ Some n → Counts n area
