-- Whether an untimed formula holds depends on the tower only by the marks of the state.
use Prim.Native.Nat.{ℕ}
use mathlib.Core.Path.{◌≡◌, refl, ap, ap₂}
use mathlib.Core.Bool.{◌&&◌, ◌||◌, beq}
use Rattle.logic.specs.Tower.{Tower}
use Rattle.logic.specs.Book.{Formula, constant, proposition, and, or, next, always_for, until}
use Rattle.pending.specs.Pending.{holds}

module _ (tower other : Tower) (x y : ℕ) (same : (k : ℕ) → tower.marked x k ≡ other.marked y k) where
  pub holds_same : (f : Formula) → holds tower x f ≡ holds other y f
  unfolding holds
  holds_same (constant b) = refl
  holds_same (proposition wanted k) = ap (λ b. beq b wanted) (same k)
  holds_same (and f g) = ap₂ ◌&&◌ (holds_same f) (holds_same g)
  holds_same (or f g) = ap₂ ◌||◌ (holds_same f) (holds_same g)
  holds_same (next c t g) = refl
  holds_same (always_for t g) = refl
  holds_same (until t f g) = refl
