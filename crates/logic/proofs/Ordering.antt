-- Ticks as the code compares them: what `<`, `<=`, `>`, `>=`, `max` and `min` answer.
use Rattle.std.proofs.Common.{ℕ, ◌≡◌, max, min, ltb, leb, sym, ap, subst, cond, is_lt, is_le, is_gt, is_ge, nat_cmp, arith}
use Rattle.std.proofs.lemmas.Bool.{lt-ltb, le-ltb}
use native.Mathlib.Decide.{dec_lt}
use Rattle.std.specs.Ordering.{ord_max, ord_min}
use Rattle.logic.specs.Time.{ticks, longer, shorter}
use Rattle.logic.specs.declared.Tick.{Tick}
use Rattle.logic.specs.contracts.TickOrd.TheImpl.{cmp-value}

pub less_number : (a b : ℕ) → is_lt (nat_cmp a b) ≡ ltb a b
less_number a b = grind arith

pub at_most_number : (a b : ℕ) → is_le (nat_cmp a b) ≡ leb a b
at_most_number a b = grind arith

pub more_number : (a b : ℕ) → is_gt (nat_cmp a b) ≡ ltb b a
more_number a b = grind arith

pub at_least_number : (a b : ℕ) → is_ge (nat_cmp a b) ≡ leb b a
at_least_number a b = grind arith

pub max_longer : (d e : Tick) → ord_max cmp-value.it d e ≡ longer d e
unfolding longer
max_longer d e = subst (λ b. cond b d e ≡ ticks (max d.0 e.0)) (sym (less_number e.0 d.0)) (elim (dec_lt e.0 d.0) [
  | yes l ↦ rw (lt-ltb e.0 d.0 l) (ap (λ n. ticks n) (omega arith))
  | no l ↦ rw (le-ltb e.0 d.0 (omega arith)) (ap (λ n. ticks n) (omega arith))
])

pub min_shorter : (d e : Tick) → ord_min cmp-value.it d e ≡ shorter d e
unfolding shorter
min_shorter d e = subst (λ b. cond b e d ≡ ticks (min d.0 e.0)) (sym (less_number e.0 d.0)) (elim (dec_lt e.0 d.0) [
  | yes l ↦ rw (lt-ltb e.0 d.0 l) (ap (λ n. ticks n) (omega arith))
  | no l ↦ rw (le-ltb e.0 d.0 (omega arith)) (ap (λ n. ticks n) (omega arith))
])
