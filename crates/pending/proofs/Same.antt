-- The test for one and the same obligation decides equality.
use mathlib.Core.Bool.{true}
use mathlib.Core.Path.{◌≡◌, refl, ap}
use borrow.Author.Tests.{eqb-true, eq-eqb}
use Rattle.base.specs.Lists.{same_option}
use Rattle.base.proofs.Lists.{same_option_eq, eq_same_option, same_list_eq, eq_same_list}
use Rattle.logic.specs.Time.{same_ticks}
use Rattle.logic.specs.declared.Tick.{Tick}
use Rattle.pending.specs.Pending.{Pending, same_pending}

-- The same number of ticks is the same time.
pub same_ticks_eq : (d e : Tick) → same_ticks d e ≡ true → d ≡ e
unfolding same_ticks
same_ticks_eq d e h = ap (λ n. record { 0 = n }) (eqb-true d.0 e.0 h)

pub same_ticks_refl : (d : Tick) → same_ticks d d ≡ true
unfolding same_ticks
same_ticks_refl d = eq-eqb d.0 d.0 refl

-- Two obligations that the test calls the same are equal.
pub same_pending_eq : (p q : Pending) → same_pending p q ≡ true → p ≡ q
unfolding same_pending
same_pending_eq p q h = same_list_eq (same_option same_ticks) (same_option_eq same_ticks same_ticks_eq) p q h

pub same_pending_refl : (p : Pending) → same_pending p p ≡ true
unfolding same_pending
same_pending_refl p = eq_same_list (same_option same_ticks) (λ o. eq_same_option same_ticks same_ticks_refl {o = o} refl) refl
