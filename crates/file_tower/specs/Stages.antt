-- What is known of a tower file on the way to fit, as each test leaves it to the next; and parts of the tests.
use Rattle.std.specs.Prelude.{ℕ, ◌+◌, ◌*◌, ◌^◌, ◌≤◌, ◌<◌, ◌≡◌, Bool, ◌||◌, not, List, length, leb, ltb, eqb}
use Rattle.base.specs.Lists.{some_of, below}
use Rattle.logic.specs.Tower.{layout_of, states_of, actions_of, marks_of, start_of, actions_offset, states_offset, states_at, state_at}
use Rattle.logic.specs.Tower.{length_of, kind_of, mask_of, target_of, last_kind, not_enabled}

-- The counts and the start are in range; no layout has more than 1,000 states.
pub record Ranges (bytes : List ℕ) : Type 0 where
  pub states_least : 1 ≤ states_of bytes
  pub states_most : states_of bytes ≤ 1000
  pub actions_least : 1 ≤ actions_of bytes
  pub actions_most : actions_of bytes ≤ 16
  pub marks_most : marks_of bytes ≤ 16
  pub start_below : start_of bytes < states_of bytes

-- The header is whole, with A and P in it.
pub record Headed (bytes : List ℕ) : Type 0 where
  pub header : (layout_of bytes).header ≤ length bytes
  pub counts : 3 ≤ length bytes

-- The header is whole, and its counts are in range.
pub record Counted (bytes : List ℕ) : Type 0 where
  pub headed : Headed bytes
  pub ranges : Ranges bytes

-- The same, and the file is as long as it has to be: every action is there, and the last state ends it.
pub record Sized (bytes : List ℕ) : Type 0 where
  pub counted : Counted bytes
  pub actions : (layout_of bytes).header + 2 * actions_of bytes ≤ length bytes
  pub end : length bytes ≡ state_at bytes (states_of bytes)

-- a header offset is wrong
unfoldable pub bad_offsets : List ℕ → Bool
bad_offsets bytes = not (eqb (actions_offset bytes) (layout_of bytes).header) || not (eqb (states_offset bytes) (states_at bytes))

-- action a has length 0, or no known kind
unfoldable pub bad_action : List ℕ → ℕ → Bool
bad_action bytes a = eqb (length_of bytes a) 0 || ltb last_kind (kind_of bytes a)

-- the target of action a in state x is neither a state nor 'not enabled'
unfoldable pub bad_target : List ℕ → ℕ → ℕ → Bool
bad_target bytes x a = not (ltb (target_of bytes x a) (states_of bytes) || not_enabled bytes x a)

-- some target in state x is such a one
unfoldable pub bad_targets_of : List ℕ → ℕ → Bool
bad_targets_of bytes x = some_of (bad_target bytes x) (below (actions_of bytes))

-- the mask of state x has a bit at or above P
unfoldable pub bad_mask : List ℕ → ℕ → Bool
bad_mask bytes x = leb (2 ^ marks_of bytes) (mask_of bytes x)
