-- The pairs that are met are few enough to be looked up.
use Prim.Native.Nat.{ℕ, ◌+◌, ◌≤◌}
use native.Mathlib.Omega.{arith}
use mathlib.Core.Path.{◌≡◌}
use mathlib.Core.List.{List}
use Rattle.logic.specs.Tower.{Tower}
use Rattle.set_index.specs.Entries.{most_entries}
use Rattle.pair_search.specs.Explored.{Explored}
use Rattle.std.specs.Prelude.{Ok}
use Rattle.base.specs.Answers.{Answer}

pub met_few : (r : Answer ℕ) (tower : Tower) (nodes graph : List ℕ) (n : ℕ) → Explored r tower nodes graph → r ≡ Ok n → n ≤ most_entries + 1
met_few r tower nodes graph n explored e = omega (arith, (explored.pairs_held n e).holds.pairs_most)
