-- Where the numbers of a table file lie, by its layout: within the file, and at numbers that fit.
use Prim.Native.Nat.{ℕ, ◌+◌, ◌*◌, ◌^◌, ◌≤◌, ◌<◌}
use native.Mathlib.Omega.{arith}
use mathlib.Core.Path.{◌≡◌}
use mathlib.Core.Bool.{true}
use mathlib.Core.List.{List}
use lib.ListN.{length, get_or}
use mir.Syntax.{w8, w64}
use mir.Val.{Fits}
use Rattle.base.specs.Bytes.{number_at}
use Rattle.base.proofs.Bytes.{piece_inside}
use Rattle.logic.specs.declared.FileLayout.{FileLayout}
use Rattle.logic.specs.TableFile.{row_size, step_size, steps_at}
use Rattle.logic.proofs.Layouts.{LayoutFits}
use Rattle.reading.specs.TableReading.{rows_of, steps_of, table_layout, row_place, row_state, row_count, row_first, step_place, header_right}
use Rattle.reading.proofs.TableHeader.{table_layout_fits, header_out}

-- What holds of the layout that was found.
fits : (bytes : List ℕ) (k : FileLayout) → k ≡ table_layout bytes → LayoutFits k
fits bytes k e = rw e (table_layout_fits bytes)

-- A state's number takes one byte or two.
pub width_least : (bytes : List ℕ) (k : FileLayout) → k ≡ table_layout bytes → 1 ≤ k.width
width_least bytes k e = (fits bytes k e).a_byte

pub width_most : (bytes : List ℕ) (k : FileLayout) → k ≡ table_layout bytes → k.width ≤ 2
width_most bytes k e = (fits bytes k e).few_bytes

-- ---- rows

-- The number of rows is of two bytes, and so is a number that is no more.
pub row_number : (bytes : List ℕ) (r : ℕ) → ((p : ℕ) → Fits w8 (get_or bytes p 0)) → r ≤ rows_of bytes → r < 65536
unfolding number_at
row_number bytes r small le = omega (arith, small 0, small 1)

-- The place of a row, as the layout gives it.
pub row_place_read : (bytes : List ℕ) (k : FileLayout) (r p : ℕ) → k ≡ table_layout bytes → p ≡ steps_at k r → p ≡ row_place bytes r
unfolding row_place steps_at
row_place_read bytes k r p is_k e = rw is_k at e

module _ (bytes : List ℕ) (r p : ℕ) (k : FileLayout) (right : header_right bytes ≡ true) (low : r < rows_of bytes) (is_p : p ≡ row_place bytes r)
    (is_k : k ≡ table_layout bytes) where
  -- A row is there as a whole.
  row_whole : p + k.width + 3 ≤ length bytes
  unfolding row_place step_place steps_at row_size
  row_whole =
      let inside = rw (← is_k) at (piece_inside ((table_layout bytes).width + 3) (rows_of bytes) r low) in
      let end = rw (← is_k) at (header_out bytes right).size in
      let here = rw (← is_k) at is_p in
      omega arith

  -- So are its state, its step count and its first step.
  pub state_there : p + k.width ≤ length bytes
  state_there = omega (arith, row_whole)

  pub count_there : p + k.width < length bytes
  count_there = omega (arith, row_whole)

  pub first_there : p + k.width + 1 + 1 < length bytes
  first_there = omega (arith, row_whole)

  -- Their places fit.
  pub count_fits : length bytes < 2 ^ 64 → Fits w64 (p + k.width)
  count_fits f = omega (arith, row_whole)

  pub first_fits : length bytes < 2 ^ 64 → Fits w64 (p + k.width + 1)
  first_fits f = omega (arith, row_whole)

module _ (bytes : List ℕ) (r p : ℕ) (k : FileLayout) (is_p : p ≡ row_place bytes r) (is_k : k ≡ table_layout bytes) where
  -- They are what is read.
  pub state_read : (n : ℕ) → n ≡ number_at k.width bytes p → n ≡ row_state bytes r
  unfolding row_state
  state_read n e = rw (is_p, is_k) at e

  pub count_read : get_or bytes (p + k.width) 0 ≡ row_count bytes r
  unfolding row_count
  count_read = rw (is_p, is_k)

  pub first_read : (n : ℕ) → n ≡ number_at 2 bytes (p + k.width + 1) → n ≡ row_first bytes r
  unfolding row_first
  first_read n e = rw (is_p, is_k) at e

-- ---- steps

module _ (bytes : List ℕ) (i n p : ℕ) (is-n : n ≡ rows_of bytes) (is_p : p ≡ row_place bytes n) where
  steps_place : p ≡ steps_at (table_layout bytes) (rows_of bytes)
  unfolding row_place steps_at
  steps_place = rw is-n at is_p

  -- The place of a step, from where the steps begin.
  pub step_place_read : p + 3 * i ≡ step_place bytes i
  unfolding step_place step_size
  step_place_read = rw steps_place

  pub step_place_fits : header_right bytes ≡ true → i < steps_of bytes → length bytes < 2 ^ 64 → Fits w64 (p + 3 * i)
  unfolding step_place step_size
  step_place_fits h l f = omega (arith, steps_place, (header_out bytes h).size)

module _ (bytes : List ℕ) (i : ℕ) (h : header_right bytes ≡ true) (l : i < steps_of bytes) where
  pub step_number_fits : length bytes < 2 ^ 64 → Fits w64 (3 * i)
  unfolding step_place step_size
  step_number_fits f = omega (arith, (header_out bytes h).size)

  module _ (p : ℕ) (is_p : p ≡ step_place bytes i) where
    -- A step is there as a whole.
    pub action_there : p < length bytes
    unfolding step_place step_size
    action_there = omega (arith, (header_out bytes h).size)

    pub target_there : p + 1 + 1 < length bytes
    unfolding step_place step_size
    target_there = omega (arith, (header_out bytes h).size)

    pub target_fits : length bytes < 2 ^ 64 → Fits w64 (p + 1)
    target_fits f = omega (arith, target_there)
