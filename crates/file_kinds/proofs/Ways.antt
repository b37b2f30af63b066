-- A law for each way through the code: from what is known of a kind's number, what the definition says of it.
use Prim.Native.Nat.{ℕ}
use mathlib.Core.Path.{◌≡◌, refl}
use mathlib.Core.Bool.{true, false}
use lib.Dec.{eqb, ltb}
use borrow.Author.Tests.{eq-eqb, ne_eqb}
use Rattle.logic.specs.Tower.{controllable, goes_on, last_kind}

-- The largest kind decides.
pub above_last : (k : ℕ) → ltb 2 k ≡ ltb last_kind k
unfolding last_kind
above_last k = refl

-- Ours may be withheld, and nothing else.
pub ours_only : (k : ℕ) → eqb k 1 ≡ controllable k
unfolding controllable
ours_only k = refl

-- Ours goes on.
pub ours_goes : (k : ℕ) → k ≡ 1 → true ≡ goes_on k
unfolding goes_on
ours_goes k e = let h : eqb k 1 ≡ true = eq-eqb k 1 e in rw h

-- Of the others what is sure to come does.
pub sure_goes : (k : ℕ) → (k ≡ 1 → ⊥) → eqb k 2 ≡ goes_on k
unfolding goes_on
sure_goes k n = let h : eqb k 1 ≡ false = ne_eqb k 1 n in rw h
