-- The place of a row, and counts in range.
use Prim.Native.Nat.{ℕ, ◌+◌, ◌*◌, ◌≤◌, ◌<◌}
use native.Mathlib.Omega.{arith}
use native.Mathlib.Nat.{mul-le-mul}
use mathlib.Core.Path.{◌≡◌}
use lib.Dec.{leb}
use borrow.Author.Tests.{le-leb, lt-leb}
use mir.Syntax.{w64}
use mir.Val.{Fits}
use Rattle.logic.specs.declared.FileLayout.{FileLayout}
use Rattle.logic.specs.Tower.{in_range}
use Rattle.logic.specs.TableFile.{rows_at, row_size, steps_at}

module _ (layout : FileLayout) (r n : ℕ) (small : layout.width ≤ 2) (few : r < 65536) (is-n : n ≡ row_size layout) where
  rows_small : n * r ≤ 5 * 65536
  unfolding row_size
  rows_small = let size : n ≤ 5 = omega arith in let rows : r ≤ 65536 = omega arith in mul-le-mul size rows

  -- The bytes of so many rows are a number, and so is the place behind them.
  pub rows_fit : Fits w64 (n * r)
  rows_fit = omega (arith, rows_small)

  pub place_fits : Fits w64 (12 + n * r)
  place_fits = omega (arith, rows_small)

-- The place of a row, from the bytes of one.
pub place_read : (layout : FileLayout) (r n : ℕ) → n ≡ row_size layout → 12 + n * r ≡ steps_at layout r
unfolding steps_at rows_at
place_read layout r n e = rw e

-- At least 1: the upper end decides.
pub range_high : (most n : ℕ) → 1 ≤ n → leb n most ≡ in_range most n
unfolding in_range
range_high most n h = rw (le-leb 1 n h)

-- Below 1.
pub range_low : (most n : ℕ) → n < 1 → leb 1 n ≡ in_range most n
unfolding in_range
range_low most n h = rw (lt-leb 1 n h)
