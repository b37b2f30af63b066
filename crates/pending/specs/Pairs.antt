-- 01, 'What is pending', 'A pair is a tower state and what is pending there': pairs and their count, as they were in the base. They stay for
-- the theorem that books without two timed sides give the bytes they gave (`alternatives/proofs/OnePairs.antt`).
use Rattle.std.specs.Prelude.{ℕ, Bool, ◌&&◌, List, map, ltb, eqb}
use Rattle.std.specs.Prelude.{Option, None, Some}
use Rattle.base.specs.Options.{bind}
use Rattle.base.specs.Lists.{below, present, total}
use Rattle.logic.specs.Tower.{Tower}
use Rattle.logic.specs.Book.{Book}
use Rattle.pending.specs.Pending.{Pending, same_pending, progressed, first_pending}
use Rattle.base.specs.Search.{search_from}

pub record Pair : Type 0 where
  pub state : ℕ
  pub pending : Pending

unfoldable pub same_pair : Pair → Pair → Bool
same_pair v w = eqb v.state w.state && same_pending v.pending w.pending

-- A pair counts once,
unfoldable pub pair_weight : Pair → ℕ
pair_weight v = 1

-- and there are at most 1,000.
unfoldable pub most_pairs : ℕ
most_pairs = 1000

-- the start state with the `start` formulas pending
unfoldable pub first_pair : Tower → Book → Pair
first_pair tower book = record { state = tower.start; pending = first_pending book }

-- a state reached with what is then pending
unfoldable pub pair_at : ℕ → Option Pending → Option Pair
pair_at y None = None
pair_at y (Some p) = Some (record { state = y; pending = p })

-- the pair that an enabled action leads to; nothing where it is not enabled or the step is broken
unfoldable pub pair_step : Tower → Book → Pair → ℕ → Option Pair
pair_step tower book v a =
    bind (tower.target v.state a)
    (λ y. pair_at y (progressed tower book v.state (tower.step_length v.state a) v.pending))

-- the pairs that the enabled actions lead to over unbroken steps, actions ascending
unfoldable pub pair_followers : Tower → Book → Pair → List Pair
pair_followers tower book v = present (map (pair_step tower book v) (below tower.actions))

-- Pairs are counted over all unbroken steps from the start.
unfoldable pub pairs : Tower → Book → List Pair
pairs tower book = search_from same_pair (pair_followers tower book) pair_weight most_pairs (first_pair tower book)

-- 11: over 1,000 pairs
unfoldable pub over_pairs : Tower → Book → Bool
over_pairs tower book = ltb most_pairs (total (map pair_weight (pairs tower book)))
