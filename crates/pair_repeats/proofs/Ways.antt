-- The ways through `move_alike` and `led_before`.
use Prim.Native.Nat.{ℕ, ◌+◌, ◌-◌, ◌≤◌, ◌<◌}
use native.Mathlib.Omega.{arith}
use mathlib.Core.Path.{◌≡◌, sym, ◌∙◌, ap}
use mathlib.Core.List.{List}
use Rattle.base.specs.Bytes.{byte_at, number_at}
use Rattle.set_index.specs.Entries.{entry_number}
use Rattle.pair_graph.specs.Graph.{to}
use Rattle.pair_graph.specs.Steps.{cell, move_of, move_at}
use Rattle.pair_graph.proofs.Moves.{high_move}
use Rattle.pair_repeats.specs.Repeats.{MovesWritten, LedAlike, LedBefore}

-- ---- move_alike

module _ (area graph room : List ℕ) (i a b y m : ℕ) (is_m : m ≡ number_at 2 graph (cell i b)) where
  names : 2 ≤ m → move_at graph i b ≡ to (m - 2)
  unfolding move_at
  names l = ap move_of (sym is_m) ∙ high_move m l

  pub alike_inside : 2 ≤ m → MovesWritten area graph room i a → b < a → m - 2 ≤ 1001
  alike_inside l written low = omega (arith, written.inside b (m - 2) low (names l))

  pub alike_found : (x : ℕ) → 2 ≤ m → x ≡ entry_number area (m - 2) → x ≡ y → byte_at room (30736 + b) ≡ byte_at room (30736 + a)
      → byte_at room (30720 + b) ≡ byte_at room (30720 + a) → b < a → MovesWritten area graph room i a
      → LedAlike (m - 2) area graph room i a b y
  alike_found x l is_x same place count low written =
      record { earlier = low; inside = written.inside b (m - 2) low (names l); count = count; place = place; leads = names l; state = sym is_x ∙ same }

-- ---- led_before

pub before_found : (area graph room : List ℕ) (i a b y j : ℕ) → LedAlike j area graph room i a b y → LedBefore j area graph room i a y
before_found area graph room i a b y j found = record { action = b; alike = found }
