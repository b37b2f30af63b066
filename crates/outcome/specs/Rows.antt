-- 01, 'Good tables', 'Rows with equal state and equal allowed runs onward are one row': the rows of the made table, by partition refinement.
use Rattle.std.specs.Prelude.{ℕ, zero, suc, Bool, ◌&&◌, List, map, length, eqb}
use Rattle.std.specs.Prelude.{Option, None, Some}
use Rattle.base.specs.Lists.{every, below, present, joined, same_option, place_of}
use Rattle.logic.specs.Tower.{Tower}
use Rattle.logic.specs.Book.{Book}
use Rattle.logic.specs.Tables.{Step, Row, Table}
use Rattle.base.specs.Search.{search_from, once, rest_round}
use Rattle.alternatives.specs.Pairs.{Pair, first_pair, pairs}
use Rattle.outcome.specs.Game.{safe_step}

-- Two safe pairs are alike for n steps: they have equal state, and for each action both or neither allow it, and lead to pairs that are
-- alike for n - 1 steps. Two pairs that some n tells apart are two rows.
unfoldable pub alike_for : Tower → Book → ℕ → Pair → Pair → Bool
alike_for tower book zero v w = eqb v.state w.state
alike_for tower book (suc n) v w =
    alike_for tower book n v w
    && every (λ a. same_option (alike_for tower book n) (safe_step tower book v a) (safe_step tower book w a)) (below tower.actions)

-- two pairs side by side
pub record Two : Type 0 where
  pub one : Pair
  pub other : Pair

-- every two of them
unfoldable pub twos : List Pair → List Two
twos vs = joined (map (λ v. map (λ w. record { one = v; other = w }) vs) vs)

-- the round after which no two are told apart any more
unfoldable pub last_split : Tower → Book → ℕ
last_split tower book =
    rest_round (λ n two. alike_for tower book n two.one two.other) (twos (pairs tower book)) (length (twos (pairs tower book))) 0

-- the two pairs make one row
unfoldable pub one_row : Tower → Book → Pair → Pair → Bool
one_row tower book v w = alike_for tower book (last_split tower book) v w

-- the pairs that allowed actions lead to, actions ascending
unfoldable pub safe_followers : Tower → Book → Pair → List Pair
safe_followers tower book v = present (map (safe_step tower book v) (below tower.actions))

-- Rows by example, the small tower's book 1. Row 0 is the start, state 0. Its actions in turn: 0 leads to state 1, met first: row 1; 2 leads to
-- state 2: row 2. Row 1 allows action 1, to state 0 with other runs onward than row 0 has: row 3. Row 2 allows action 3, to state 0 again: row 4.
-- Row 3 leads by action 2 to row 2, row 4 by action 0 to row 1, and nothing new is met.

-- one pair for each row: the start, then the others as first met, rows in order, actions ascending
unfoldable pub row_pairs : Tower → Book → List Pair
row_pairs tower book = search_from (one_row tower book) (safe_followers tower book) once (length (pairs tower book)) (first_pair tower book)

-- the step of action a, if it is allowed: its target is the row of the pair reached
unfoldable pub row_step : Tower → Book → ℕ → Option Pair → Option Step
row_step tower book a None = None
row_step tower book a (Some w) = Some (record { action = a; target = place_of (one_row tower book w) (row_pairs tower book) })

unfoldable pub made_row : Tower → Book → Pair → Row
made_row tower book v =
    record {
      state = v.state;
      steps = present (map (λ a. row_step tower book a (safe_step tower book v a)) (below tower.actions));
    }

-- the made table
unfoldable pub made_table : Tower → Book → Table
made_table tower book = map (made_row tower book) (row_pairs tower book)
