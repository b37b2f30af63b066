-- Moves as they are written and read: what a number says, and what stores leave of the graph.
use Prim.Native.Nat.{ℕ, zero, suc, ◌-◌, ◌≤◌, ◌<◌}
use native.Mathlib.Omega.{arith}
use mathlib.Core.Path.{◌≡◌, refl, sym, ◌∙◌, ap}
use mathlib.Core.Bool.{Bool, true, false, not}
use Rattle.std.specs.Prelude.{Option, None, Some}
use mathlib.Core.List.{List}
use lib.ListN.{length}
use lib.Dec.{eqb}
use borrow.Author.Tests.{ne_eqb}
use Rattle.base.specs.Choice.{pick}
use Rattle.base.specs.Bytes.{number_at}
use Rattle.base.proofs.Lists.{none-some}
use Rattle.pair_graph.specs.Graph.{Move, not_enabled, broken, to, allowed_to}
use Rattle.pair_graph.specs.Steps.{cell, move_of, move_at, safe_in, is_enabled, led_to, FlaggedGraph}

-- ---- numbers of moves

-- A number below 2 leads to no pair.
low_move : (flags : List ℕ) (k : ℕ) → k < 2 → None ≡ (allowed_to (safe_in flags) (move_of k))
unfolding move_of allowed_to
low_move flags zero l = refl
low_move flags (suc zero) l = refl
low_move flags (suc (suc k)) l = absurd (omega arith)

-- Any other leads to one.
pub high_move : (k : ℕ) → 2 ≤ k → move_of k ≡ to (k - 2)
unfolding move_of
high_move zero l = absurd (omega arith)
high_move (suc zero) l = absurd (omega arith)
high_move (suc (suc j)) l = let e : j ≡ suc (suc j) - 2 = omega arith in ap to e

-- It is allowed if that pair is safe.
safe_move : (flags : List ℕ) (j : ℕ) (b : Bool) → b ≡ safe_in flags j
    → (allowed_to (safe_in flags) (to j)) ≡ (pick b (λ _. Some j) (λ _. None))
unfolding allowed_to
safe_move flags j b e = rw e

-- The number 0 is that of an action which is not enabled.
enabled_number : (k : ℕ) → not (eqb k 0) ≡ is_enabled (move_of k)
unfolding is_enabled move_of
enabled_number zero = refl
enabled_number (suc zero) = refl
enabled_number (suc (suc k)) = ap not (ne_eqb (suc (suc k)) 0 (λ e. omega arith))

pub enabled_read : (area : List ℕ) (i a m : ℕ) → m ≡ number_at 2 area (cell i a) → not (eqb m 0) ≡ is_enabled (move_at area i a)
unfolding move_at
enabled_read area i a m e = enabled_number m ∙ ap (λ k. is_enabled (move_of k)) e

-- ---- the ways of `allowed`

module _ (area flags : List ℕ) (i a m : ℕ) (is_m : m ≡ number_at 2 area (cell i a)) where
  -- The move as it is written.
  move_is : move_at area i a ≡ move_of m
  unfolding move_at
  move_is = ap move_of (sym is_m)

  -- It leads to no pair.
  pub led_low : m < 2 → None ≡ (led_to area flags i a)
  unfolding led_to
  led_low h = rw move_is (low_move flags m h)

  -- The pair that it leads to is one of the n.
  pub led_below : (n actions : ℕ) → FlaggedGraph n actions area flags → i < n → a < actions → 2 ≤ m → m - 2 < length flags
  led_below n actions held l k h =
      let b = held.graph.targets i a (m - 2) l k (move_is ∙ high_move m h) in
      let f = held.flagged in
      omega arith

  -- It leads to a pair that is not safe.
  pub led_removed : (b : Bool) → 2 ≤ m → b ≡ safe_in flags (m - 2) → b ≡ false → None ≡ (led_to area flags i a)
  unfolding led_to
  led_removed b h e k =
      let z = safe_move flags (m - 2) false (sym k ∙ e) in
      rw (move_is, high_move m h) (sym z)

  -- It leads to a safe pair.
  pub led_safe : (b : Bool) → 2 ≤ m → b ≡ safe_in flags (m - 2) → b ≡ true → Some (m - 2) ≡ (led_to area flags i a)
  unfolding led_to
  led_safe b h e k =
      let z = safe_move flags (m - 2) true (sym k ∙ e) in
      rw (move_is, high_move m h) (sym z)

-- ---- what an answer says

pub led_some : (o : Option ℕ) (r : Option ℕ) (j : ℕ) → r ≡ o → r ≡ Some j → o ≡ Some j
led_some None r j e f = let z : ◌≡◌ {A = ℕ} 0 1 = cc in absurd (omega arith)
led_some (Some k) r j e f = cc

pub led_none : (o : Option ℕ) (r : Option ℕ) → r ≡ o → r ≡ None → o ≡ None
led_none None r e f = refl
led_none (Some k) r e f = let z : ◌≡◌ {A = ℕ} 0 1 = cc in absurd (omega arith)

-- An allowed move leads to the pair that it names, and that is safe.
pub allowed_out : (safe : ℕ → Bool) (m : Move) (j : ℕ) → allowed_to safe m ≡ Some j → (m ≡ to j) × (safe j ≡ true)
unfolding allowed_to
allowed_out safe not_enabled j e = none-some refl e
allowed_out safe broken j e = none-some refl e
allowed_out safe (to k) j e = go (safe k) refl e
  where
    go : (b : Bool) → safe k ≡ b → pick b (λ _. Some k) (λ _. None) ≡ Some j → (to k ≡ to j) × (safe j ≡ true)
    go true p f = let same : k ≡ j = cc in (ap to same, ap safe (sym same) ∙ p)
    go false p f = none-some refl f

-- The pair that an allowed action leads to is one of the n.
pub allowed_below : (area flags : List ℕ) (n actions i a j : ℕ) → FlaggedGraph n actions area flags → i < n → a < actions
    → led_to area flags i a ≡ Some j → j < n
unfolding led_to
allowed_below area flags n actions i a j held l k e =
    held.graph.targets i a j l k (allowed_out (safe_in flags) (move_at area i a) j e).0
