-- The header of a table file, and the places of its rows and steps.
use Prim.Native.Nat.{ℕ, suc, ◌+◌, ◌*◌, ◌≤◌}
use native.Mathlib.Omega.{arith}
use native.Mathlib.Nat.{add-zero, mul-zero, mul-suc, mul-le-mul_left}
use mathlib.Core.Path.{◌≡◌, refl}
use mathlib.Core.Bool.{Bool, true, ◌&&◌}
use mathlib.Core.List.{List}
use lib.ListN.{length}
use lib.Dec.{leb, eqb}
use borrow.Author.Tests.{eq-eqb, le-leb, eqb-true, leb-true}
use Rattle.base.specs.Bytes.{number_at}
use Rattle.base.proofs.Lists.{and_left, and_right, and_both}
use Rattle.logic.specs.Tower.{in_range, most_actions}
use Rattle.logic.specs.TableFile.{most_rows, rows_at, row_size, step_size, steps_at}
use Rattle.logic.proofs.Layouts.{IsLayout, LayoutFits, layout_fits}
use Rattle.logic.proofs.TowerFile.{range_out}
use Rattle.reading.specs.TableReading.{rows_of, steps_of, table_states, table_actions, table_layout, row_place, step_place, header_right}

-- ---- the layout

-- A table file has one of the layouts that there are.
pub table_is_layout : (bytes : List ℕ) → IsLayout (table_layout bytes)
unfolding table_layout
table_is_layout bytes = record { known = refl }

pub table_layout_fits : (bytes : List ℕ) → LayoutFits (table_layout bytes)
table_layout_fits bytes = layout_fits (table_is_layout bytes)

-- ---- places

-- The first row is where the rows begin.
pub row_place_zero : (bytes : List ℕ) → row_place bytes 0 ≡ rows_at
unfolding row_place
row_place_zero bytes = omega (arith, mul-zero (row_size (table_layout bytes)))

-- The next row is behind this one.
pub row_place_suc : (bytes : List ℕ) (r : ℕ) → row_place bytes (suc r) ≡ row_place bytes r + (table_layout bytes).width + 1 + 2
unfolding row_place row_size
row_place_suc bytes r = omega (arith, mul-suc ((table_layout bytes).width + 3) r)

-- A later row is further behind.
pub row_place_grows : (bytes : List ℕ) (r s : ℕ) → r ≤ s → row_place bytes r ≤ row_place bytes s
unfolding row_place
row_place_grows bytes r s le =
    let rows : row_size (table_layout bytes) * r ≤ row_size (table_layout bytes) * s = mul-le-mul_left (row_size (table_layout bytes)) le in
    omega arith

-- The next step is behind this one.
pub step_place_suc : (bytes : List ℕ) (i : ℕ) → step_place bytes (suc i) ≡ step_place bytes i + 1 + 2
unfolding step_place step_size
step_place_suc bytes i = omega arith

-- The first step is where the steps begin.
pub step_place_zero : (bytes : List ℕ) → step_place bytes 0 ≡ steps_at (table_layout bytes) (rows_of bytes)
unfolding step_place step_size
step_place_zero bytes = add-zero (steps_at (table_layout bytes) (rows_of bytes))

-- ---- the header

-- What a header says that is right.
pub record HeaderFits (bytes : List ℕ) : Type 0 where
  pub whole : rows_at ≤ length bytes
  pub a_row : 1 ≤ rows_of bytes
  pub few_rows : rows_of bytes ≤ most_rows
  pub rows_begin : number_at 2 bytes 4 ≡ rows_at
  pub steps_begin : number_at 2 bytes 6 ≡ steps_at (table_layout bytes) (rows_of bytes)
  pub a_state : 1 ≤ table_states bytes
  pub few_states : table_states bytes ≤ (table_layout bytes).most
  pub an_action : 1 ≤ table_actions bytes
  pub few_actions : table_actions bytes ≤ most_actions
  pub size : length bytes ≡ step_place bytes (steps_of bytes)

range_in : (most n : ℕ) → 1 ≤ n → n ≤ most → in_range most n ≡ true
unfolding in_range
range_in most n a b = and_both (le-leb 1 n a) (le-leb n most b)

-- A header that fits is right.
pub header_in : (bytes : List ℕ) → HeaderFits bytes → header_right bytes ≡ true
unfolding header_right
header_in bytes h =
    and_both (and_both (and_both (and_both (and_both (and_both (le-leb rows_at (length bytes) h.whole)
    (range_in most_rows (rows_of bytes) h.a_row h.few_rows))
    (eq-eqb (number_at 2 bytes 4) rows_at h.rows_begin))
    (eq-eqb (number_at 2 bytes 6) (steps_at (table_layout bytes) (rows_of bytes)) h.steps_begin))
    (range_in (table_layout bytes).most (table_states bytes) h.a_state h.few_states))
    (range_in most_actions (table_actions bytes) h.an_action h.few_actions))
    (eq-eqb (length bytes) (step_place bytes (steps_of bytes)) h.size)

-- all seven hold
seven : (a b c d e f g : Bool) → (a && b && c && d && e && f && g) ≡ true
    → (a ≡ true) × (b ≡ true) × (c ≡ true) × (d ≡ true) × (e ≡ true) × (f ≡ true) × (g ≡ true)
seven a b c d e f g h =
    let h5 = and_left (a && b && c && d && e && f) g h in
    let h4 = and_left (a && b && c && d && e) f h5 in
    let h3 = and_left (a && b && c && d) e h4 in
    let h2 = and_left (a && b && c) d h3 in
    let h1 = and_left (a && b) c h2 in (
      and_left a b h1,
      and_right a b h1,
      and_right (a && b) c h2,
      and_right (a && b && c) d h3,
      and_right (a && b && c && d) e h4,
      and_right (a && b && c && d && e) f h5,
      and_right (a && b && c && d && e && f) g h,
    )

-- A header that is right fits.
pub header_out : (bytes : List ℕ) → header_right bytes ≡ true → HeaderFits bytes
unfolding header_right
header_out bytes h =
    let (a, b, c, d, e, f, g) =
    seven (leb rows_at (length bytes)) (in_range most_rows (rows_of bytes)) (eqb (number_at 2 bytes 4) rows_at)
    (eqb (number_at 2 bytes 6) (steps_at (table_layout bytes) (rows_of bytes))) (in_range (table_layout bytes).most (table_states bytes))
    (in_range most_actions (table_actions bytes)) (eqb (length bytes) (step_place bytes (steps_of bytes))) h in
    record {
      whole = leb-true rows_at (length bytes) a;
      a_row = (range_out most_rows (rows_of bytes) b).0;
      few_rows = (range_out most_rows (rows_of bytes) b).1;
      rows_begin = eqb-true (number_at 2 bytes 4) rows_at c;
      steps_begin = eqb-true (number_at 2 bytes 6) (steps_at (table_layout bytes) (rows_of bytes)) d;
      a_state = (range_out (table_layout bytes).most (table_states bytes) e).0;
      few_states = (range_out (table_layout bytes).most (table_states bytes) e).1;
      an_action = (range_out most_actions (table_actions bytes) f).0;
      few_actions = (range_out most_actions (table_actions bytes) f).1;
      size = eqb-true (length bytes) (step_place bytes (steps_of bytes)) g;
    }

-- All four hold.
pub four : (a b c d : Bool) → (a && b && c && d) ≡ true → (a ≡ true) × (b ≡ true) × (c ≡ true) × (d ≡ true)
four a b c d h =
    let h2 = and_left (a && b && c) d h in
    let h1 = and_left (a && b) c h2 in
    (and_left a b h1, and_right a b h1, and_right (a && b) c h2, and_right (a && b && c) d h)
