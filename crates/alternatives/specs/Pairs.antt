-- 02, item 3: 'Pairs are told apart by these sets, and a pair counts towards the 1,000 once for each alternative in it.' Pairs, their steps,
-- their count, and the refusals 11 and 20.
use Rattle.std.specs.Prelude.{ℕ, Bool, true, false, ◌&&◌, List, [], ◌∷◌, map, length, ltb, eqb}
use Rattle.std.specs.Prelude.{Option, None, Some}
use Rattle.base.specs.Options.{bind}
use Rattle.base.specs.Choice.{pick}
use Rattle.base.specs.Lists.{below, some_of, present, same_list, there_with, total}
use Rattle.base.specs.Search.{search_from}
use Rattle.logic.specs.Tower.{Tower}
use Rattle.logic.specs.Book.{Book}
use Rattle.pending.specs.Pending.{Pending, same_pending}
use Rattle.alternatives.specs.Alternatives.{Alternatives, over, these}
use Rattle.alternatives.specs.Progression.{progressed_set, first_set}

-- A pair is a tower state and what is pending there: a set of alternatives.
pub record Pair : Type 0 where
  pub state : ℕ
  pub pending : List Pending

-- Pairs are told apart by these sets.
unfoldable pub same_pair : Pair → Pair → Bool
same_pair v w = eqb v.state w.state && same_list same_pending v.pending w.pending

-- A pair counts once for each alternative in it,
unfoldable pub pair_weight : Pair → ℕ
pair_weight v = length v.pending

-- and they count at most 1,000.
unfoldable pub most_pairs : ℕ
most_pairs = 1000

-- the start state with the `start` formulas pending
unfoldable pub first_pair : Tower → Book → Pair
first_pair tower book = record { state = tower.start; pending = first_set book }

-- what comes of the pair's alternatives as its state is left by action a
unfoldable pub alternatives_by : Tower → Book → Pair → ℕ → Alternatives
alternatives_by tower book v a = progressed_set tower book v.state (tower.step_length v.state a) v.pending

-- a state reached with the alternatives that are left; nothing where they are over 16 or none is left
unfoldable pub pair_at : ℕ → Alternatives → Option Pair
pair_at y over = None
pair_at y (these []) = None
pair_at y (these (p ∷ ps)) = Some (record { state = y; pending = p ∷ ps })

-- the pair that an enabled action leads to; nothing where it is not enabled, the step is broken, or it gives over 16 alternatives
unfoldable pub tried_step : Tower → Book → Pair → ℕ → Option Pair
tried_step tower book v a = bind (tower.target v.state a) (λ y. pair_at y (alternatives_by tower book v a))

-- over 16
unfoldable pub is_over : Alternatives → Bool
is_over over = true
is_over (these ps) = false

-- A pair is tried by each enabled action. It is over_full if one gives over 16 alternatives.
unfoldable pub over_full : Tower → Book → Pair → Bool
over_full tower book v =
    some_of (λ a. there_with (λ y. is_over (alternatives_by tower book v a)) (tower.target v.state a)) (below tower.actions)

-- Such a pair is stepped from by no action.
unfoldable pub pair_step : Tower → Book → Pair → ℕ → Option Pair
pair_step tower book v a = pick (over_full tower book v) (λ _. None) (λ _. tried_step tower book v a)

-- the pairs that the enabled actions lead to, actions ascending
unfoldable pub pair_followers : Tower → Book → Pair → List Pair
pair_followers tower book v = present (map (pair_step tower book v) (below tower.actions))

-- Pairs are counted over all unbroken steps from the start.
unfoldable pub pairs : Tower → Book → List Pair
pairs tower book = search_from same_pair (pair_followers tower book) pair_weight most_pairs (first_pair tower book)

-- 11: they count over 1,000
unfoldable pub over_pairs : Tower → Book → Bool
over_pairs tower book = ltb most_pairs (total (map pair_weight (pairs tower book)))

-- 20: some reached pair is over_full
unfoldable pub over_alternatives : Tower → Book → Bool
over_alternatives tower book = some_of (over_full tower book) (pairs tower book)
