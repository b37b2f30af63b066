-- The safety game on the pairs: remove every pair from which a break or a stop can be forced. What is left is what a good table may reach.
use Rattle.std.specs.Prelude.{ℕ, zero, suc, Bool, true, ◌&&◌, ◌||◌, not, length}
use Rattle.std.specs.Prelude.{Option}
use Rattle.base.specs.Lists.{every, some_of, below, is_there, there_with, only_if}
use Rattle.logic.specs.Tower.{Tower, controllable, goes_on}
use Rattle.logic.specs.Book.{Book}
use Rattle.base.specs.Search.{rest_round}
use Rattle.alternatives.specs.Pairs.{Pair, pair_step, pairs}

-- an action that may not be withheld leads to a staying pair, if it is enabled at all
unfoldable pub forced_right : Tower → Book → (Pair → Bool) → Pair → ℕ → Bool
forced_right tower book staying v a =
    controllable (tower.kind a) || not (is_there (tower.target v.state a)) || there_with staying (pair_step tower book v a)

-- an action that counts as going on leads to a staying pair
unfoldable pub can_go : Tower → Book → (Pair → Bool) → Pair → ℕ → Bool
can_go tower book staying v a = goes_on (tower.kind a) && there_with staying (pair_step tower book v a)

-- No action that may not be withheld leads out of the staying pairs, and some action goes on among them.
unfoldable pub fine : Tower → Book → (Pair → Bool) → Pair → Bool
fine tower book staying v =
    every (forced_right tower book staying v) (below tower.actions) && some_of (can_go tower book staying v) (below tower.actions)

-- the pairs that are left after so many rounds: each round removes those that are not fine among the ones left
unfoldable pub safe_through : Tower → Book → ℕ → Pair → Bool
safe_through tower book zero v = true
safe_through tower book (suc n) v = safe_through tower book n v && fine tower book (safe_through tower book n) v

-- the round after which none is removed
unfoldable pub last_removal : Tower → Book → ℕ
last_removal tower book = rest_round (safe_through tower book) (pairs tower book) (length (pairs tower book)) 0

-- the pair is never removed
unfoldable pub safe : Tower → Book → Pair → Bool
safe tower book v = safe_through tower book (last_removal tower book) v

-- the pair that an action leads to, if it is safe: the action is allowed there
unfoldable pub safe_step : Tower → Book → Pair → ℕ → Option Pair
safe_step tower book v a = only_if (safe tower book) (pair_step tower book v a)
