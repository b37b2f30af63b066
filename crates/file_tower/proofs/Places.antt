-- Where the fields of a tower file lie, by its layout: within the file, and at numbers that fit.
use Prim.Native.Nat.{ℕ, ◌+◌, ◌*◌, ◌^◌, ◌≤◌, ◌<◌}
use native.Mathlib.Omega.{arith}
use native.Mathlib.Nat.{mul-le-mul}
use mathlib.Core.Path.{◌≡◌, refl, ◌∙◌, ap}
use mathlib.Core.List.{List}
use lib.ListN.{length, get_or}
use mir.Syntax.{w64}
use mir.Val.{Fits}
use Rattle.base.specs.Bytes.{number_at}
use Rattle.base.proofs.Bytes.{piece_inside}
use Rattle.logic.specs.declared.FileLayout.{FileLayout}
use Rattle.logic.specs.Tower.{layout_of, states_of, actions_of, start_of, actions_offset, states_offset, states_at, state_size, state_at}
use Rattle.logic.specs.Tower.{length_of, kind_of, mask_of, target_of}
use Rattle.logic.proofs.Layouts.{LayoutFits, file_layout_fits}
use Rattle.file_tower.specs.Stages.{Headed, Counted, Sized}

-- What holds of the layout that was found.
fits : (l : List ℕ) (k : FileLayout) → k ≡ layout_of l → LayoutFits k
fits l k e = rw e (file_layout_fits l)

-- A state's number takes one byte or two.
pub width_least : (l : List ℕ) (k : FileLayout) → k ≡ layout_of l → 1 ≤ k.width
width_least l k e = (fits l k e).a_byte

pub width_most : (l : List ℕ) (k : FileLayout) → k ≡ layout_of l → k.width ≤ 2
width_most l k e = (fits l k e).few_bytes

-- ---- the header

module _ (l : List ℕ) (k : FileLayout) (is_k : k ≡ layout_of l) where
  module _ (headed : Headed l) where
    whole : k.header ≤ length l
    whole = rw is_k headed.header

    -- S, the start and the offsets are there.
    pub states_there : k.states + k.width ≤ length l
    states_there = omega (arith, whole, (fits l k is_k).states_inside)

    pub start_there : k.start + k.width ≤ length l
    start_there = omega (arith, whole, (fits l k is_k).start_inside)

    pub first_offset_there : k.offsets + 1 < length l
    first_offset_there = omega (arith, whole, (fits l k is_k).offsets_inside)

    pub second_offset_there : k.offsets + 2 + 1 < length l
    second_offset_there = omega (arith, whole, (fits l k is_k).offsets_inside)

  pub second_offset_fits : Fits w64 (k.offsets + 2)
  second_offset_fits = omega (arith, (fits l k is_k).offsets_inside, (fits l k is_k).short_header)

  -- They are what is read.
  pub states_read : (r : ℕ) → r ≡ number_at k.width l k.states → r ≡ states_of l
  unfolding states_of
  states_read r e = rw is_k at e

  pub start_read : (r : ℕ) → r ≡ number_at k.width l k.start → r ≡ start_of l
  unfolding start_of
  start_read r e = rw is_k at e

  pub first_offset_read : (r : ℕ) → r ≡ number_at 2 l k.offsets → r ≡ actions_offset l
  unfolding actions_offset
  first_offset_read r e = rw is_k at e

  pub second_offset_read : (r : ℕ) → r ≡ number_at 2 l (k.offsets + 2) → r ≡ states_offset l
  unfolding states_offset
  second_offset_read r e = rw is_k at e

-- ---- where the states lie

module _ (l : List ℕ) (k : FileLayout) (n : ℕ) (is_k : k ≡ layout_of l) (is-n : n ≡ actions_of l) where
  -- Where the states begin, from the number of actions.
  pub states_place : k.header + 2 * n ≡ states_at l
  unfolding states_at
  states_place = rw (is_k, is-n)

  pub states_place_fits : Counted l → Fits w64 (k.header + 2 * n)
  states_place_fits h = omega (arith, (fits l k is_k).short_header, h.ranges.actions_most)

  targets_few : Counted l → k.width * n ≤ 2 * 16
  targets_few h = let few : n ≤ 16 = omega (arith, h.ranges.actions_most) in mul-le-mul (fits l k is_k).few_bytes few

  -- The bytes of a state, from the number of actions.
  pub targets_size_fits : Counted l → Fits w64 (k.width * n)
  targets_size_fits h = omega (arith, targets_few h)

  pub state_size_fits : Counted l → Fits w64 (2 + k.width * n)
  state_size_fits h = omega (arith, targets_few h)

  pub size_of_state : 2 + k.width * n ≡ state_size l
  unfolding state_size
  size_of_state = rw (is_k, is-n)

-- A state is 34 bytes at most.
state_small : (l : List ℕ) → Counted l → state_size l ≤ 34
unfolding state_size
state_small l h = omega (arith, targets_few l (layout_of l) (actions_of l) refl refl h)

module _ (l : List ℕ) (x n : ℕ) (h : Counted l) (k : x ≤ states_of l) (is-n : n ≡ state_size l) where
  -- The bytes of the first x states.
  states_small : n * x ≤ 34 * 1000
  states_small =
      let size : n ≤ 34 = omega (arith, state_small l h) in
      let few : x ≤ 1000 = omega (arith, h.ranges.states_most) in
      mul-le-mul size few

  -- That number fits.
  pub states_fit : Fits w64 (n * x)
  states_fit = omega (arith, states_small)

  -- So does the place of a state.
  pub place_fits : (m : ℕ) → m ≡ states_at l → Fits w64 (m + n * x)
  unfolding states_at
  place_fits m e = omega (arith, states_small, (file_layout_fits l).short_header, h.ranges.actions_most)

-- Where a state is written, from where the states begin and how long one is.
pub state_place : (l : List ℕ) (x m n : ℕ) → m ≡ states_at l → n ≡ state_size l → m + n * x ≡ state_at l x
unfolding state_at
state_place l x m n d e = rw (d, e)

-- A state is there as a whole.
state_whole : (l : List ℕ) (x : ℕ) → Sized l → x < states_of l → state_at l x + state_size l ≤ length l
unfolding state_at
state_whole l x h k = omega (arith, piece_inside (state_size l) (states_of l) x k, h.end)

-- ---- the fields of an action

module _ (l : List ℕ) (k : FileLayout) (a : ℕ) (is_k : k ≡ layout_of l) where
  module _ (h : Sized l) (low : a < actions_of l) where
    actions_there : k.header + 2 * actions_of l ≤ length l
    actions_there = rw is_k h.actions

    -- Its two bytes are there.
    pub length_there : k.header + 2 * a < length l
    length_there = omega (arith, actions_there)

    pub kind_there : k.header + 2 * a + 1 < length l
    kind_there = omega (arith, actions_there)

    -- Their places fit.
    pub length_fits : length l < 2 ^ 64 → Fits w64 (k.header + 2 * a)
    length_fits f = omega (arith, actions_there)

    pub kind_fits : length l < 2 ^ 64 → Fits w64 (k.header + 2 * a + 1)
    kind_fits f = omega (arith, actions_there)

  -- The byte read is the action's length.
  pub length_read : (r : ℕ) → r ≡ get_or l (k.header + 2 * a) 0 → r ≡ length_of l a
  unfolding length_of
  length_read r e = rw is_k at e

  -- The byte read is the action's kind.
  pub kind_read : (r : ℕ) → r ≡ get_or l (k.header + 2 * a + 1) 0 → r ≡ kind_of l a
  unfolding kind_of
  kind_read r e = rw is_k at e

-- ---- the fields of a state

-- Both bytes of a mask are there.
pub mask_there : (l : List ℕ) (x p : ℕ) → Sized l → x < states_of l → p ≡ state_at l x → p + 1 < length l
unfolding state_size
mask_there l x p h k e = omega (arith, state_whole l x h k)

-- The number read is the mask.
pub mask_read : (l : List ℕ) (x p r : ℕ) → p ≡ state_at l x → r ≡ number_at 2 l p → r ≡ mask_of l x
unfolding mask_of
mask_read l x p r e f = f ∙ ap (number_at 2 l) e

module _ (l : List ℕ) (x p : ℕ) (h : Sized l) (low : x < states_of l) (is_p : p ≡ state_at l x) where
  -- The place of the first target fits.
  pub targets_fit : length l < 2 ^ 64 → Fits w64 (p + 2)
  unfolding state_size
  targets_fit f = omega (arith, state_whole l x h low)

  module _ (k : FileLayout) (a : ℕ) (is_k : k ≡ layout_of l) (action : a < actions_of l) where
    -- A target is there.
    pub target_there : p + 2 + k.width * a + k.width ≤ length l
    unfolding state_size
    target_there =
        let size : state_size l ≡ 2 + k.width * actions_of l = rw is_k in
        omega (arith, state_whole l x h low, piece_inside k.width (actions_of l) a action)

    -- Its place fits.
    pub target_place_fits : length l < 2 ^ 64 → Fits w64 (k.width * a)
    target_place_fits f = omega (arith, target_there)

    pub target_fits : length l < 2 ^ 64 → Fits w64 (p + 2 + k.width * a)
    target_fits f = omega (arith, target_there)

-- The number read is the target.
pub target_read_at : (l : List ℕ) (x p a r : ℕ) (k : FileLayout) → p ≡ state_at l x → k ≡ layout_of l
    → r ≡ number_at k.width l (p + 2 + k.width * a) → r ≡ target_of l x a
unfolding target_of
target_read_at l x p a r k e is_k f = rw (e, is_k) at f
