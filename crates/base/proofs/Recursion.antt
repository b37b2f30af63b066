-- The laws of `run`: one call is one step whose calls are calls of it again, where every call of a step has less left.
use Prim.Native.Nat.{ℕ, zero, suc, ◌<◌}
use mathlib.Core.Path.{◌≡◌}
use native.Mathlib.Omega.{arith}
use Rattle.base.specs.Recursion.{to_depth, run}

-- A step with what is known of every call: the known holds where calls stop, a step keeps it, and a step depends only on the calls with less left.
pub record Falls {X R : Type 0} (left : X → ℕ) (stuck : X → R) (step : X → (X → R) → R) (Known : X → R → Type 0) : Type 0 where
  pub at_stop : (x : X) → Known x (stuck x)
  pub kept : (x : X) (f : X → R) → ((y : X) → Known y (f y)) → Known x (step x f)
  pub same : (x : X) (f g : X → R) → ((y : X) → Known y (f y)) → ((y : X) → left y < left x → f y ≡ g y) → step x f ≡ step x g

module _ {X R : Type 0} (left : X → ℕ) (stuck : X → R) (step : X → (X → R) → R) (Known : X → R → Type 0)
    (falls : Falls left stuck step Known) where
  depth_known : (n : ℕ) (x : X) → Known x (to_depth left stuck step n x)
  unfolding to_depth
  depth_known zero x = falls.at_stop x
  depth_known (suc n) x = falls.kept x (λ y. to_depth left stuck step n y) (depth_known n)

  -- Enough depth is as good as any other.
  depth_enough : (n m : ℕ) (x : X) → left x < n → left x < m → to_depth left stuck step n x ≡ to_depth left stuck step m x
  unfolding to_depth
  depth_enough zero m x a b = absurd (omega arith)
  depth_enough (suc n) zero x a b = absurd (omega arith)
  depth_enough (suc n) (suc m) x a b =
      falls.same x (λ y. to_depth left stuck step n y) (λ y. to_depth left stuck step m y) (depth_known n)
      (λ y l. depth_enough n m y (omega arith) (omega arith))

  -- What is known of every call holds of `run`.
  pub run_known : (x : X) → Known x (run left stuck step x)
  unfolding run
  run_known x = depth_known (suc (left x)) x

  -- One call is one step.
  pub run_eq : (x : X) → run left stuck step x ≡ step x (λ y. run left stuck step y)
  unfolding run to_depth
  run_eq x =
      falls.same x (λ y. to_depth left stuck step (left x) y) (λ y. run left stuck step y) (depth_known (left x))
      (λ y l. depth_enough (left x) (suc (left y)) y l (omega arith))
