-- The layouts that files have, and what holds of each of them.
use Prim.Native.Nat.{ℕ, ◌+◌, ◌^◌, ◌≤◌}
use native.Mathlib.Omega.{arith}
use mathlib.Core.Path.{◌≡◌, refl}
use mathlib.Core.List.{List}
use Rattle.logic.specs.declared.FileLayout.{FileLayout}
use Rattle.logic.specs.Tower.{narrow, layout_of}

-- A file may have this layout.
pub record IsLayout (layout : FileLayout) : Type 0 where
  pub known : layout ≡ narrow

-- A tower file has one of them.
pub file_layout : (bytes : List ℕ) → IsLayout (layout_of bytes)
unfolding layout_of
file_layout bytes = record { known = refl }

-- What holds of each: a state's number takes one byte or two, its fields lie in the header beside A and P, and every state has a number
-- that can be written.
pub record LayoutFits (layout : FileLayout) : Type 0 where
  pub a_byte : 1 ≤ layout.width
  pub few_bytes : layout.width ≤ 2
  pub counts_inside : 3 ≤ layout.header
  pub short_header : layout.header ≤ 12
  pub states_inside : layout.states + layout.width ≤ layout.header
  pub start_inside : layout.start + layout.width ≤ layout.header
  pub offsets_inside : layout.offsets + 4 ≤ layout.header
  pub few_states : layout.most ≤ 1000
  pub states_written : layout.most ≤ 256 ^ layout.width

narrow_fits : LayoutFits narrow
unfolding narrow
narrow_fits =
    record {
      a_byte = omega arith;
      few_bytes = omega arith;
      counts_inside = omega arith;
      short_header = omega arith;
      states_inside = omega arith;
      start_inside = omega arith;
      offsets_inside = omega arith;
      few_states = omega arith;
      states_written = omega arith;
    }

pub layout_fits : {layout : FileLayout} → IsLayout layout → LayoutFits layout
layout_fits is = rw is.known narrow_fits

-- So it holds of that of a tower file.
pub file_layout_fits : (bytes : List ℕ) → LayoutFits (layout_of bytes)
file_layout_fits bytes = layout_fits (file_layout bytes)
