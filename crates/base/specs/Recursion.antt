-- Recursion by a number that falls: one step is written with the recursive call as a parameter, and `run` ties the knot.
use Rattle.std.specs.Prelude.{ℕ, zero, suc}

module _ {X R : Type 0} (left : X → ℕ) (stuck : X → R) (step : X → (X → R) → R) where
  -- at most n calls deep; deeper is `stuck`
  unfoldable pub to_depth : ℕ → X → R
  to_depth zero x = stuck x
  to_depth (suc n) x = step x (λ y. to_depth n y)

  -- as deep as `left` says, which is enough where every call of a step has less left
  unfoldable pub run : X → R
  run x = to_depth (suc (left x)) x
