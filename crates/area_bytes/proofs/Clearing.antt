-- The bytes of an area that is cleared.
use Prim.Native.Nat.{ℕ, ◌+◌, ◌-◌, ◌≤◌, ◌<◌}
use native.Mathlib.Omega.{arith}
use native.Mathlib.Decide.{dec_lt}
use mathlib.Core.Path.{◌≡◌, sym, ◌∙◌, ap}
use mathlib.Core.List.{List, ◌++◌}
use lib.ListN.{length, replicate, length-replicate, get_or-replicate, get_or-eq_default, get_or-append}
use lib.Seq.{get_or-append-add}
use Rattle.base.specs.Bytes.{byte_at}

-- Every byte of a cleared area is 0.
pub cleared_byte : (size p : ℕ) → ◌≡◌ {A = ℕ} (byte_at (replicate size 0) p) 0
cleared_byte size p = elim (dec_lt p size) [
  | yes l ↦ get_or-replicate size p 0 0 l
  | no l ↦ get_or-eq_default (replicate size 0) 0 (omega (arith, length-replicate {A = ℕ} size 0))
]

-- So is every byte of a part that is cleared.
pub part_byte : (before behind : List ℕ) (size p : ℕ) → length before ≤ p → p < length before + size
    → ◌≡◌ {A = ℕ} (byte_at (before ++ (replicate size 0 ++ behind)) p) 0
part_byte before behind size p l m =
    let place : length before + (p - length before) ≡ p = omega arith in
    let within : p - length before < length (replicate {A = ℕ} size 0) = omega (arith, length-replicate {A = ℕ} size 0) in
    ap (byte_at (before ++ (replicate size 0 ++ behind))) (sym place)
    ∙ get_or-append-add before (replicate size 0 ++ behind) (p - length before) 0
    ∙ get_or-append (replicate size 0) behind 0 (p - length before) within
    ∙ cleared_byte size (p - length before)
