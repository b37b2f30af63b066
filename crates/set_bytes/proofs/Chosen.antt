-- The chosen candidates: how many there are, which they are, one more of them, and what they do not depend on.
use Prim.Native.Nat.{ℕ, ◌+◌, ◌*◌, ◌≤◌, ◌<◌}
use native.Mathlib.Omega.{arith}
use native.Mathlib.Numerals.{add-one}
use mathlib.Core.Path.{◌≡◌, ◌∙◌, ap}
use mathlib.Core.List.{List, [], ◌∷◌, ◌++◌, map, map-append}
use lib.ListN.{length, get_or, set, take, length-map, get_or-map}
use lib.Seq.{length-take-le, get_or-take, take-suc, take-suc-set}
use mir.Syntax.{w8, w64}
use mir.Val.{Fits}
use Rattle.set_bytes.specs.SetBytes.{alternative_size, candidate, chosen}
use Rattle.set_bytes.specs.Promises.{Below}
use Rattle.set_bytes.proofs.Elsewhere.{alternative_before, map_same}

module _ (room : List ℕ) (n : ℕ) (order : List ℕ) where
  -- There are as many as are chosen.
  pub chosen_length : (m : ℕ) → m ≤ length order → length (chosen room n order m) ≡ m
  unfolding chosen
  chosen_length m few = length-map (take m order) (candidate room n) ∙ length-take-le m order few

  -- Each has the number that the order says.
  pub chosen_at : (m i : ℕ) → i < m → get_or (chosen room n order m) i (candidate room n 0) ≡ candidate room n (get_or order i 0)
  unfolding chosen
  chosen_at m i low = get_or-map (candidate room n) (take m order) i 0 ∙ ap (candidate room n) (get_or-take m order i 0 low)

  -- One more of them.
  pub chosen_next : (m : ℕ) → m < length order
      → chosen room n order (m + 1) ≡ chosen room n order m ++ (candidate room n (get_or order m 0) ∷ [])
  unfolding chosen
  chosen_next m low =
      ap (map (candidate room n)) (ap (λ (k : ℕ). take k order) (add-one m) ∙ take-suc order m 0 low) ∙ map-append (candidate room n) (take m order) (get_or order m 0 ∷ [])

  -- One more is written behind them.
  pub chosen_set : (m c : ℕ) → m < length order → chosen room n (set order m c) (m + 1) ≡ chosen room n order m ++ (candidate room n c ∷ [])
  unfolding chosen
  chosen_set m c low =
      ap (map (candidate room n)) (ap (λ (k : ℕ). take k (set order m c)) (add-one m) ∙ take-suc-set order m c low) ∙ map-append (candidate room n) (take m order) (c ∷ [])

-- Chosen candidates stay where those below a number, which they are, are the same.
pub chosen_same : (room after : List ℕ) (n : ℕ) (order : List ℕ) (m c : ℕ) → n ≤ alternative_size → m ≤ length order
    → take (alternative_size * c) after ≡ take (alternative_size * c) room → Below order m c
    → chosen after n order m ≡ chosen room n order m
unfolding chosen candidate
chosen_same room after n order m c nodes few same below =
    map_same (candidate after n) (candidate room n) (take m order) (λ i l.
    let size = length-take-le m order few in
    let number = get_or-take m order i 0 (omega arith) in
    let low = below.low i (omega arith) in
    alternative_before room after (alternative_size * c) n (alternative_size * get_or (take m order) i 0) same (omega arith))

-- ---- their numbers are bytes

-- Their places fit,
pub number_fits : (order : List ℕ) (i : ℕ) → ((j : ℕ) → Fits w8 (get_or order j 0)) → Fits w64 (60 * get_or order i 0)
number_fits order i bytes = omega (arith, bytes i)

-- and they lie in the room.
pub number_inside : (n : ℕ) (room order : List ℕ) (i : ℕ) → ((j : ℕ) → Fits w8 (get_or order j 0)) → n ≤ 60 → 15360 ≤ length room
    → 60 * get_or order i 0 + n ≤ length room
number_inside n room order i bytes nodes fits = omega (arith, bytes i)
