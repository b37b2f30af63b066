-- 02, item 3, on refusal 10: which parts of a formula may be timed.
use mathlib.Core.Path.{◌≡◌, refl}
use mathlib.Core.Logic.{◌↔◌}
use mathlib.Core.Bool.{true, false}
use Rattle.base.proofs.Lists.{and_left, and_right, and_both}
use Rattle.logic.specs.Book.{Formula, constant, or, until, within, timed, timed_right}
use Rattle.logic.specs.declared.Tick.{Tick}

-- 'Both sides of `|` may now be timed.' A `|` is as right as its sides are.
pub either_side : (f g : Formula) → (timed_right (or f g) ≡ true) ↔ ((timed_right f ≡ true) × (timed_right g ≡ true))
unfolding timed_right
either_side f g = (
  λ h. (and_left (timed_right f) (timed_right g) h, and_right (timed_right f) (timed_right g) h),
  λ h. and_both h.0 h.1,
)

-- The second part of U is never timed,
pub until_untimed : (t : Tick) (f g : Formula) → timed g ≡ true → timed_right (until t f g) ≡ false
unfolding timed_right
until_untimed t f g e = rw e refl

-- and so the part of E is not.
pub within_untimed : (t : Tick) (g : Formula) → timed g ≡ true → timed_right (within t g) ≡ false
unfolding within
within_untimed t g e = until_untimed t (constant true) g e
