-- The two orders of alternatives. To ask no more is reflexive and transitive, and antisymmetric where there is a cell for each node; to be
-- earlier is a strict total order.
use Prim.Native.Nat.{◌<◌}
use mathlib.Core.Path.{◌≡◌, refl, sym, ap, ap₂}
use mathlib.Core.Logic.{◌⊎◌, inl, inr, ⊎_elim}
use mathlib.Core.Bool.{true, false, ◌&&◌}
use Rattle.std.specs.Prelude.{Option, None, Some}
use mathlib.Core.List.{List, [], ◌∷◌}
use native.Mathlib.Nat.{le_antisymm}
use native.Mathlib.Omega.{arith}
use lib.ListN.{length}
use lib.Dec.{ltb, eqb}
use borrow.Author.Tests.{ltb-true, ltb-false, lt-ltb, le-ltb, leb-true, le-leb, eqb-true, eq-eqb}
use Rattle.base.proofs.Lists.{whether, never_both, and_left, and_right, and_both, and_fails_right, or_cases, or_left, or_right, or_neither}
use Rattle.logic.specs.Time.{ticks, at_most, same_ticks}
use Rattle.logic.specs.Book.{Formula, constant, proposition, and, or, next, always_for, until}
use Rattle.logic.specs.declared.Tick.{Tick}
use Rattle.pending.specs.Pending.{Pending}
use Rattle.pending.proofs.Same.{same_ticks_eq, same_ticks_refl}
use Rattle.alternatives.specs.Alternatives.{first_cell, later_cells, no_more_ticks, no_more_cell, asks_no_more, cell_number, earlier}
use Rattle.alternatives.proofs.Least.{OrderLaws}

-- ---- Ticks

same_ticks_trans : (r q s : Tick) → same_ticks r q ≡ true → same_ticks q s ≡ true → same_ticks r s ≡ true
same_ticks_trans r q s e d = rw (same_ticks_eq r q e) d

at_most_refl : (r : Tick) → at_most r r ≡ true
unfolding at_most
at_most_refl r = le-leb r.0 r.0 (omega arith)

at_most_trans : (r q s : Tick) → at_most r q ≡ true → at_most q s ≡ true → at_most r s ≡ true
unfolding at_most
at_most_trans r q s e d = le-leb r.0 s.0 (omega (arith, leb-true r.0 q.0 e, leb-true q.0 s.0 d))

at_most_antisym : (r q : Tick) → at_most r q ≡ true → at_most q r ≡ true → r ≡ q
unfolding at_most
at_most_antisym r q e d = ap ticks (omega (arith, leb-true r.0 q.0 e, leb-true q.0 r.0 d))

-- A number of ticks asks no more than itself.
pub no_more_ticks_refl : (f : Formula) (r : Tick) → no_more_ticks f r r ≡ true
unfolding no_more_ticks
no_more_ticks_refl (constant b) r = same_ticks_refl r
no_more_ticks_refl (proposition w k) r = same_ticks_refl r
no_more_ticks_refl (and f g) r = same_ticks_refl r
no_more_ticks_refl (or f g) r = same_ticks_refl r
no_more_ticks_refl (next c t g) r = same_ticks_refl r
no_more_ticks_refl (always_for t g) r = at_most_refl r
no_more_ticks_refl (until t f g) r = at_most_refl r

-- Ticks that ask no more than some ask no more than what these ask no more than.
pub no_more_ticks_trans : (f : Formula) (r q s : Tick) → no_more_ticks f r q ≡ true → no_more_ticks f q s ≡ true
    → no_more_ticks f r s ≡ true
unfolding no_more_ticks
no_more_ticks_trans (constant b) r q s e d = same_ticks_trans r q s e d
no_more_ticks_trans (proposition w k) r q s e d = same_ticks_trans r q s e d
no_more_ticks_trans (and f g) r q s e d = same_ticks_trans r q s e d
no_more_ticks_trans (or f g) r q s e d = same_ticks_trans r q s e d
no_more_ticks_trans (next c t g) r q s e d = same_ticks_trans r q s e d
no_more_ticks_trans (always_for t g) r q s e d = at_most_trans r q s e d
no_more_ticks_trans (until t f g) r q s e d = at_most_trans s q r d e

-- Two numbers of ticks that ask no more than each other are the same.
pub no_more_ticks_antisym : (f : Formula) (r q : Tick) → no_more_ticks f r q ≡ true → no_more_ticks f q r ≡ true → r ≡ q
unfolding no_more_ticks
no_more_ticks_antisym (constant b) r q e d = same_ticks_eq r q e
no_more_ticks_antisym (proposition w k) r q e d = same_ticks_eq r q e
no_more_ticks_antisym (and f g) r q e d = same_ticks_eq r q e
no_more_ticks_antisym (or f g) r q e d = same_ticks_eq r q e
no_more_ticks_antisym (next c t g) r q e d = same_ticks_eq r q e
no_more_ticks_antisym (always_for t g) r q e d = at_most_antisym r q e d
no_more_ticks_antisym (until t f g) r q e d = at_most_antisym r q d e

-- ---- Cells

-- A cell asks no more than itself.
pub no_more_cell_refl : (f : Formula) (o : Option Tick) → no_more_cell f o o ≡ true
unfolding no_more_cell
no_more_cell_refl f None = refl
no_more_cell_refl f (Some r) = no_more_ticks_refl f r

-- What asks no more than a cell asks no more than what that one asks no more than.
pub no_more_cell_trans : (f : Formula) (o u v : Option Tick) → no_more_cell f o u ≡ true → no_more_cell f u v ≡ true
    → no_more_cell f o v ≡ true
unfolding no_more_cell
no_more_cell_trans f None u v e d = refl
no_more_cell_trans f (Some r) None v e d = never_both e refl
no_more_cell_trans f (Some r) (Some q) None e d = d
no_more_cell_trans f (Some r) (Some q) (Some s) e d = no_more_ticks_trans f r q s e d

-- Two cells that ask no more than each other are the same.
pub no_more_cell_antisym : (f : Formula) (o u : Option Tick) → no_more_cell f o u ≡ true → no_more_cell f u o ≡ true → o ≡ u
unfolding no_more_cell
no_more_cell_antisym f None None e d = refl
no_more_cell_antisym f None (Some q) e d = never_both d refl
no_more_cell_antisym f (Some r) None e d = never_both e refl
no_more_cell_antisym f (Some r) (Some q) e d = ap {B = Option Tick} Some (no_more_ticks_antisym f r q e d)

-- ---- Which asks more

-- One alternative asks no more than another: so it does at the first node,
pub no_more_first : (f : Formula) (fs : List Formula) (p q : Pending) → asks_no_more (f ∷ fs) p q ≡ true
    → no_more_cell f (first_cell p) (first_cell q) ≡ true
unfolding asks_no_more
no_more_first f fs p q e =
    and_left (no_more_cell f (first_cell p) (first_cell q)) (asks_no_more fs (later_cells p) (later_cells q)) e

-- and at the others.
pub no_more_later : (f : Formula) (fs : List Formula) (p q : Pending) → asks_no_more (f ∷ fs) p q ≡ true
    → asks_no_more fs (later_cells p) (later_cells q) ≡ true
unfolding asks_no_more
no_more_later f fs p q e =
    and_right (no_more_cell f (first_cell p) (first_cell q)) (asks_no_more fs (later_cells p) (later_cells q)) e

-- An alternative asks no more than itself.
pub no_more_refl : (fs : List Formula) (p : Pending) → asks_no_more fs p p ≡ true
unfolding asks_no_more
no_more_refl [] p = refl
no_more_refl (f ∷ fs) p = and_both (no_more_cell_refl f (first_cell p)) (no_more_refl fs (later_cells p))

-- What asks no more than an alternative asks no more than what that one asks no more than.
pub no_more_trans : (fs : List Formula) (p q s : Pending) → asks_no_more fs p q ≡ true → asks_no_more fs q s ≡ true
    → asks_no_more fs p s ≡ true
unfolding asks_no_more
no_more_trans [] p q s e d = refl
no_more_trans (f ∷ fs) p q s e d =
    and_both
    (no_more_cell_trans f (first_cell p) (first_cell q) (first_cell s) (no_more_first f fs p q e) (no_more_first f fs q s d))
    (no_more_trans fs (later_cells p) (later_cells q) (later_cells s) (no_more_later f fs p q e) (no_more_later f fs q s d))

-- Two alternatives with a cell for each node that ask no more than each other are the same.
pub no_more_antisym : (fs : List Formula) (p q : Pending) → length p ≡ length fs → length q ≡ length fs → asks_no_more fs p q ≡ true
    → asks_no_more fs q p ≡ true → p ≡ q
unfolding first_cell later_cells
no_more_antisym [] [] [] k l e d = refl
no_more_antisym [] [] (u ∷ q) k l e d = absurd (omega arith)
no_more_antisym [] (o ∷ p) q k l e d = absurd (omega arith)
no_more_antisym (f ∷ fs) [] q k l e d = absurd (omega arith)
no_more_antisym (f ∷ fs) (o ∷ p) [] k l e d = absurd (omega arith)
no_more_antisym (f ∷ fs) (o ∷ p) (u ∷ q) k l e d =
    ap₂ (λ (c : Option Tick) (cs : Pending). c ∷ cs)
    (no_more_cell_antisym f o u (no_more_first f fs (o ∷ p) (u ∷ q) e) (no_more_first f fs (u ∷ q) (o ∷ p) d))
    (no_more_antisym fs p q (omega arith) (omega arith) (no_more_later f fs (o ∷ p) (u ∷ q) e) (no_more_later f fs (u ∷ q) (o ∷ p) d))

-- ---- Which is earlier

-- Cells with one number are the same.
pub cell_number_eq : (o u : Option Tick) → cell_number o ≡ cell_number u → o ≡ u
unfolding cell_number
cell_number_eq None None e = refl
cell_number_eq None (Some q) e = absurd (omega arith)
cell_number_eq (Some r) None e = absurd (omega arith)
cell_number_eq (Some r) (Some q) e = ap (λ n. Some (ticks n)) (omega arith)

-- One alternative is earlier than another: its first number is lower, or it is the same and the others are earlier.
pub earlier_out : (o u : Option Tick) (p q : Pending) → earlier (o ∷ p) (u ∷ q) ≡ true
    → (cell_number o < cell_number u) ⊎ ((cell_number o ≡ cell_number u) × (earlier p q ≡ true))
unfolding earlier
earlier_out o u p q e =
    ⊎_elim (λ a. inl (ltb-true (cell_number o) (cell_number u) a))
    (λ a. inr (
      eqb-true (cell_number o) (cell_number u) (and_left (eqb (cell_number o) (cell_number u)) (earlier p q) a),
      and_right (eqb (cell_number o) (cell_number u)) (earlier p q) a,
    ))
    (or_cases (ltb (cell_number o) (cell_number u)) (eqb (cell_number o) (cell_number u) && earlier p q) e)

-- Its first number is lower: it is earlier.
pub earlier_lower : (o u : Option Tick) (p q : Pending) → cell_number o < cell_number u → earlier (o ∷ p) (u ∷ q) ≡ true
unfolding earlier
earlier_lower o u p q l = or_left (eqb (cell_number o) (cell_number u) && earlier p q) (lt-ltb (cell_number o) (cell_number u) l)

-- Its first number is the same, and the others are earlier: it is earlier.
pub earlier_on : (o u : Option Tick) (p q : Pending) → cell_number o ≡ cell_number u → earlier p q ≡ true → earlier (o ∷ p) (u ∷ q) ≡ true
unfolding earlier
earlier_on o u p q e d =
    or_right (ltb (cell_number o) (cell_number u)) (and_both (eq-eqb (cell_number o) (cell_number u) e) d)

-- No alternative is earlier than itself.
pub earlier_irrefl : (p : Pending) → earlier p p ≡ false
unfolding earlier
earlier_irrefl [] = refl
earlier_irrefl (o ∷ p) =
    or_neither (le-ltb (cell_number o) (cell_number o) (omega arith))
    (and_fails_right (eqb (cell_number o) (cell_number o)) (earlier_irrefl p))

-- What is earlier than an alternative is earlier than what that one is earlier than.
pub earlier_trans : (p q s : Pending) → earlier p q ≡ true → earlier q s ≡ true → earlier p s ≡ true
unfolding earlier
earlier_trans [] [] s e d = d
earlier_trans [] (u ∷ q) [] e d = d
earlier_trans [] (u ∷ q) (v ∷ s) e d = refl
earlier_trans (o ∷ p) [] s e d = never_both e refl
earlier_trans (o ∷ p) (u ∷ q) [] e d = d
earlier_trans (o ∷ p) (u ∷ q) (v ∷ s) e d = go (earlier_trans p q s) (earlier_out o u p q e) (earlier_out u v q s d)
  where
    go : (earlier p q ≡ true → earlier q s ≡ true → earlier p s ≡ true)
        → (cell_number o < cell_number u) ⊎ ((cell_number o ≡ cell_number u) × (earlier p q ≡ true))
        → (cell_number u < cell_number v) ⊎ ((cell_number u ≡ cell_number v) × (earlier q s ≡ true)) → earlier (o ∷ p) (v ∷ s) ≡ true
    go ih (inl a) (inl b) = earlier_lower o v p s (omega arith)
    go ih (inl a) (inr b) = earlier_lower o v p s (omega (arith, b.0))
    go ih (inr a) (inl b) = earlier_lower o v p s (omega (arith, a.0))
    go ih (inr a) (inr b) = earlier_on o v p s (omega (arith, a.0, b.0)) (ih a.1 b.1)

-- Of two alternatives that are not the same one is earlier.
pub earlier_total : (p q : Pending) → (p ≡ q) ⊎ (earlier p q ≡ true) ⊎ (earlier q p ≡ true)
unfolding earlier
earlier_total [] [] = inl refl
earlier_total [] (u ∷ q) = inr (inl refl)
earlier_total (o ∷ p) [] = inr (inr refl)
earlier_total (o ∷ p) (u ∷ q) =
    whether (ltb (cell_number o) (cell_number u)) (λ a. inr (inl (earlier_lower o u p q (ltb-true (cell_number o) (cell_number u) a))))
    (λ a. whether (ltb (cell_number u) (cell_number o)) (λ b. inr (inr (earlier_lower u o q p (ltb-true (cell_number u) (cell_number o) b))))
    (λ b. on (le_antisymm (ltb-false (cell_number u) (cell_number o) b) (ltb-false (cell_number o) (cell_number u) a)) (earlier_total p q)))
  where
    on : cell_number o ≡ cell_number u → (p ≡ q) ⊎ (earlier p q ≡ true) ⊎ (earlier q p ≡ true)
        → (o ∷ p ≡ u ∷ q) ⊎ (earlier (o ∷ p) (u ∷ q) ≡ true) ⊎ (earlier (u ∷ q) (o ∷ p) ≡ true)
    on e (inl same) = inl (ap₂ (λ (c : Option Tick) (cs : Pending). c ∷ cs) (cell_number_eq o u e) same)
    on e (inr (inl d)) = inr (inl (earlier_on o u p q e d))
    on e (inr (inr d)) = inr (inr (earlier_on u o q p (sym e) d))

-- Both are as the laws of `least` want them.
pub alternatives_ordered : (fs : List Formula) → OrderLaws (asks_no_more fs) earlier
alternatives_ordered fs =
    record {
      itself = no_more_refl fs;
      chained = no_more_trans fs;
      not_itself = earlier_irrefl;
      in_turn = earlier_trans;
      one_first = earlier_total;
    }
