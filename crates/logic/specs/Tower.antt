-- 01, 'Tower file': the tower as a timed transition graph (document 004), and when a file is fit to be one.
use Rattle.std.specs.Prelude.{ℕ, ◌+◌, ◌*◌, ◌/◌, ◌%◌, ◌^◌, ◌<◌, ◌≡◌, Bool, false, ◌&&◌, ◌||◌, not, List, length, leb, ltb, eqb}
use Rattle.std.specs.Prelude.{Option, None, Some}
use Rattle.base.specs.Choice.{pick}
use Rattle.base.specs.Lists.{some_of, below}
use Rattle.base.specs.Bytes.{byte_at, number_at}
use Rattle.logic.specs.Time.{ticks}
use Rattle.logic.specs.declared.Tick.{Tick}
use Rattle.logic.specs.declared.FileLayout.{FileLayout}

-- A tower: a timed transition graph. Its marks are the atomic propositions.
pub record Tower : Type 0 where
  pub states : ℕ
  pub actions : ℕ
  pub marks : ℕ
  pub start : ℕ
  -- the kind of an action
  pub kind : ℕ → ℕ
  -- the length of the step that leaves a state by an action
  pub step_length : ℕ → ℕ → Tick
  -- the state has the mark
  pub marked : ℕ → ℕ → Bool
  -- the state that an action leads to; nothing where it is not enabled
  pub target : ℕ → ℕ → Option ℕ

-- Whatever is enabled is one of the tower's actions.
unfoldable pub Listed : Tower → Type 0
Listed tower = (x a y : ℕ) → tower.target x a ≡ Some y → a < tower.actions

-- The kinds of actions: 0 is the player's, 1 is ours, 2 comes without us and is sure to come, as the clock's train (02, item 1).

-- An action of this kind may be withheld: it is controllable. Only ours is.
unfoldable pub controllable : ℕ → Bool
controllable kind = eqb kind 1

-- An action of this kind counts as going on: a row that allows one has not stopped. The player may walk away, so the player's do not.
unfoldable pub goes_on : ℕ → Bool
goes_on kind = eqb kind 1 || eqb kind 2

-- the largest kind
unfoldable pub last_kind : ℕ
last_kind = 2

-- the most actions and marks
unfoldable pub most_actions : ℕ
most_actions = 16

unfoldable pub most_marks : ℕ
most_marks = 16

-- a count is from 1 to the most there may be
unfoldable pub in_range : ℕ → ℕ → Bool
in_range most n = leb 1 n && leb n most

-- ---- the layout of a file
-- `FileLayout` (src/lib.rt) has the bytes of the header, the bytes of a state's number, the most states, the target that says 'not enabled',
-- and where the header has S, the start and the two offsets.

-- The layout with one byte for a state's number: a header of 8 bytes, up to 200 states, and 255 for 'not enabled'.
unfoldable pub narrow : FileLayout
narrow = record { header = 8; width = 1; most = 200; disabled = 255; states = 0; start = 3; offsets = 4 }

-- the layout of a tower file: here every file has the same
unfoldable pub layout_of : List ℕ → FileLayout
layout_of bytes = narrow

-- ---- the fields of a file

-- S, A, P and the start; A and P have the same place in every layout
unfoldable pub states_of : List ℕ → ℕ
states_of bytes = number_at (layout_of bytes).width bytes (layout_of bytes).states

abbrev pub actions_of : List ℕ → ℕ
actions_of bytes = byte_at bytes 1

abbrev pub marks_of : List ℕ → ℕ
marks_of bytes = byte_at bytes 2

unfoldable pub start_of : List ℕ → ℕ
start_of bytes = number_at (layout_of bytes).width bytes (layout_of bytes).start

-- the offsets of the actions and of the states, as they are written
unfoldable pub actions_offset : List ℕ → ℕ
actions_offset bytes = number_at 2 bytes (layout_of bytes).offsets

unfoldable pub states_offset : List ℕ → ℕ
states_offset bytes = number_at 2 bytes ((layout_of bytes).offsets + 2)

-- where the states begin: behind the header and two bytes for each action
unfoldable pub states_at : List ℕ → ℕ
states_at bytes = (layout_of bytes).header + 2 * actions_of bytes

-- the bytes of one state: a two-byte mask, and a target for each action
unfoldable pub state_size : List ℕ → ℕ
state_size bytes = 2 + (layout_of bytes).width * actions_of bytes

-- where state x is written
unfoldable pub state_at : List ℕ → ℕ → ℕ
state_at bytes x = states_at bytes + state_size bytes * x

-- length and kind of action a
unfoldable pub length_of : List ℕ → ℕ → ℕ
length_of bytes a = byte_at bytes ((layout_of bytes).header + 2 * a)

unfoldable pub kind_of : List ℕ → ℕ → ℕ
kind_of bytes a = byte_at bytes ((layout_of bytes).header + 2 * a + 1)

-- the mask of state x, and the target of action a there as it is written
unfoldable pub mask_of : List ℕ → ℕ → ℕ
mask_of bytes x = number_at 2 bytes (state_at bytes x)

unfoldable pub target_of : List ℕ → ℕ → ℕ → ℕ
target_of bytes x a = number_at (layout_of bytes).width bytes (state_at bytes x + 2 + (layout_of bytes).width * a)

-- that target says 'not enabled'
unfoldable pub not_enabled : List ℕ → ℕ → ℕ → Bool
not_enabled bytes x a = eqb (target_of bytes x a) (layout_of bytes).disabled

-- bit k of a mask is set
unfoldable pub bit : ℕ → ℕ → Bool
bit k mask = eqb (mask / 2 ^ k % 2) 1

-- ---- when a file is fit

-- 1: the header is not whole
unfoldable pub no_header : List ℕ → Bool
no_header bytes = ltb (length bytes) (layout_of bytes).header

-- 2: a count or the start out of range
unfoldable pub bad_counts : List ℕ → Bool
bad_counts bytes =
    not (in_range (layout_of bytes).most (states_of bytes))
    || not (in_range most_actions (actions_of bytes))
    || not (leb (marks_of bytes) most_marks)
    || not (ltb (start_of bytes) (states_of bytes))

-- 1: a header offset or the length is wrong; the file ends after the last state
unfoldable pub bad_size : List ℕ → Bool
bad_size bytes =
    not (eqb (actions_offset bytes) (layout_of bytes).header)
    || not (eqb (states_offset bytes) (states_at bytes))
    || not (eqb (length bytes) (state_at bytes (states_of bytes)))

-- 3: an action of length 0, or of no known kind
unfoldable pub bad_actions : List ℕ → Bool
bad_actions bytes = some_of (λ a. eqb (length_of bytes a) 0 || ltb last_kind (kind_of bytes a)) (below (actions_of bytes))

-- 4: a target that is neither a state nor 'not enabled'
unfoldable pub bad_targets : List ℕ → Bool
bad_targets bytes =
    some_of (λ x. some_of (λ a. not (ltb (target_of bytes x a) (states_of bytes) || not_enabled bytes x a))
    (below (actions_of bytes))) (below (states_of bytes))

-- 5: a mask with a bit at or above P
unfoldable pub bad_masks : List ℕ → Bool
bad_masks bytes = some_of (λ x. leb (2 ^ marks_of bytes) (mask_of bytes x)) (below (states_of bytes))

-- The file is fit: none of these holds.
pub record FitTower (bytes : List ℕ) : Type 0 where
  pub header : no_header bytes ≡ false
  pub counts : bad_counts bytes ≡ false
  pub size : bad_size bytes ≡ false
  pub actions : bad_actions bytes ≡ false
  pub targets : bad_targets bytes ≡ false
  pub masks : bad_masks bytes ≡ false

-- The tower that a fit file describes. In a state of the tower an action is enabled if it is one of the tower's and has a target there.
unfoldable pub tower_of : List ℕ → Tower
tower_of bytes =
    record {
      states = states_of bytes;
      actions = actions_of bytes;
      marks = marks_of bytes;
      start = start_of bytes;
      kind = kind_of bytes;
      step_length = λ x a. ticks (length_of bytes a);
      marked = λ x k. bit k (mask_of bytes x);
      target = λ x a.
          pick (ltb x (states_of bytes) && ltb a (actions_of bytes) && not (not_enabled bytes x a))
          (λ _. Some (target_of bytes x a)) (λ _. None);
    }
