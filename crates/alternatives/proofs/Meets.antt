-- What alternatives ask of the rest of a run, cell by cell: both of two ask what the two ask, and one that asks no more is met where the other is.
use Prim.Native.Nat.{ℕ, zero, suc, ◌<◌}
use native.Mathlib.Omega.{arith}
use mathlib.Core.Path.{◌≡◌, refl, sym, ap, subst}
use mathlib.Core.Logic.{◌↔◌}
use mathlib.Core.Bool.{true, false, false≢true}
use Rattle.std.specs.Prelude.{Option, None, Some}
use Rattle.base.proofs.Options.{none-ne-some, some-injective}
use mathlib.Core.List.{List, [], ◌∷◌}
use lib.ListN.{length, get_or, set, replicate}
use borrow.Author.Tests.{leb-true}
use Rattle.base.proofs.Lists.{and_left, and_right}
use Rattle.logic.specs.Time.{ticks, at_most, longer, shorter}
use Rattle.logic.specs.Book.{Formula, constant, proposition, and, or, next, always_for, until}
use Rattle.logic.specs.declared.Tick.{Tick}
use Rattle.pending.specs.Pending.{Pending, merge}
use Rattle.pending.specs.Asks.{with_left}
use Rattle.pending.proofs.Same.{same_ticks_eq}
use Rattle.alternatives.specs.Alternatives.{first_cell, later_cells, no_more_ticks, no_more_cell, asks_no_more, both_cells, both}

-- Of two numbers of one node, the one that asks no more is merged away.
merge_less : (f : Formula) (r q : Tick) → no_more_ticks f r q ≡ true → merge f r q ≡ q
unfolding no_more_ticks merge longer shorter at_most
merge_less (constant b) r q e = same_ticks_eq r q e
merge_less (proposition w k) r q e = same_ticks_eq r q e
merge_less (and f g) r q e = same_ticks_eq r q e
merge_less (or f g) r q e = same_ticks_eq r q e
merge_less (next c t g) r q e = same_ticks_eq r q e
merge_less (always_for t g) r q e = ap ticks (omega (arith, leb-true))
merge_less (until t f g) r q e = ap ticks (omega (arith, leb-true))

-- Q says of a formula that the rest of the run keeps it. Two numbers of one node ask what the merged one asks.
abbrev pub Merging : (Formula → Type 0) → Type 0
Merging Q = (f : Formula) (r q : Tick) → Q (with_left f (merge f r q)) ↔ (Q (with_left f r) × Q (with_left f q))

module _ (Q : Formula → Type 0) where
  -- what a cell asks
  abbrev pub CellMet : Formula → Option Tick → Type 0
  CellMet f None = Unit {0}
  CellMet f (Some r) = Q (with_left f r)

  -- what an alternative asks; fs are the nodes
  abbrev pub Met : List Formula → Pending → Type 0
  Met [] p = Unit {0}
  Met (f ∷ fs) p = CellMet f (first_cell p) × Met fs (later_cells p)

  -- The same by the number of the node.
  abbrev pub MetAt : List Formula → Pending → Type 0
  MetAt fs p = (k : ℕ) (r : Tick) → k < length fs → get_or p k None ≡ Some r → Q (with_left (get_or fs k (constant false)) r)

  cell_out : (f : Formula) (o : Option Tick) (r : Tick) → CellMet f o → o ≡ Some r → Q (with_left f r)
  cell_out f None r h e = absurd (none-ne-some r e)
  cell_out f (Some q) r h e = subst (λ z. Q (with_left f z)) (some-injective q r e) h

  cell_in : (f : Formula) (o : Option Tick) → ((r : Tick) → o ≡ Some r → Q (with_left f r)) → CellMet f o
  cell_in f None h = tt
  cell_in f (Some r) h = h r refl

  pub met_out : (fs : List Formula) (p : Pending) → Met fs p → MetAt fs p
  unfolding first_cell later_cells
  met_out [] p h k r below e = absurd (omega arith)
  met_out (f ∷ fs) [] h k r below e = absurd (none-ne-some r e)
  met_out (f ∷ fs) (o ∷ p) h zero r below e = cell_out f o r h.0 e
  met_out (f ∷ fs) (o ∷ p) h (suc k) r below e = met_out fs p h.1 k r (omega arith) e

  pub met_in : (fs : List Formula) (p : Pending) → MetAt fs p → Met fs p
  unfolding first_cell later_cells
  met_in [] p h = tt
  met_in (f ∷ fs) [] h = (tt, met_in fs [] (λ k r below e. absurd (none-ne-some r e)))
  met_in (f ∷ fs) (o ∷ p) h =
      (cell_in f o (λ r e. h zero r (omega arith) e), met_in fs p (λ k r below e. h (suc k) r (omega arith) e))

  -- Nothing pending asks nothing.
  pub met_none : (fs : List Formula) → Met fs (replicate (length fs) None)
  unfolding first_cell later_cells
  met_none [] = tt
  met_none (f ∷ fs) = (tt, met_none fs)

  -- A node that is alone pending asks what it asks.
  pub met_alone : (fs : List Formula) (k : ℕ) (r : Tick) → k < length fs
      → Met fs (set (replicate (length fs) None) k (Some r)) ↔ Q (with_left (get_or fs k (constant false)) r)
  unfolding first_cell later_cells
  met_alone [] k r below = absurd (omega arith)
  met_alone (f ∷ fs) zero r below = (λ h. h.0, λ h. (h, met_none fs))
  met_alone (f ∷ fs) (suc k) r below =
      (λ h. (met_alone fs k r (omega arith)).0 h.1, λ h. (tt, (met_alone fs k r (omega arith)).1 h))

  module _ (merging : Merging Q) where
    both_cell_met : (f : Formula) (o u : Option Tick) → CellMet f (both_cells f o u) ↔ (CellMet f o × CellMet f u)
    unfolding both_cells
    both_cell_met f None u = (λ h. (tt, h), λ h. h.1)
    both_cell_met f (Some r) None = (λ h. (h, tt), λ h. h.0)
    both_cell_met f (Some r) (Some q) =
        (λ h. (((merging f q r).0 h).1, ((merging f q r).0 h).0), λ h. (merging f q r).1 (h.1, h.0))

    -- Both of two alternatives ask what the two ask.
    pub met_both : (fs : List Formula) (p q : Pending) → Met fs (both fs p q) ↔ (Met fs p × Met fs q)
    unfolding both first_cell later_cells
    met_both [] p q = (λ h. (tt, tt), λ h. tt)
    met_both (f ∷ fs) p q =
        let here = both_cell_met f (first_cell p) (first_cell q) in
        let later = met_both fs (later_cells p) (later_cells q) in (
          λ h. (((here.0 h.0).0, (later.0 h.1).0), ((here.0 h.0).1, (later.0 h.1).1)),
          λ h. (here.1 (h.0.0, h.1.0), later.1 (h.0.1, h.1.1)),
        )

    cell_less : (f : Formula) (o u : Option Tick) → no_more_cell f o u ≡ true → CellMet f u → CellMet f o
    unfolding no_more_cell
    cell_less f None u e h = tt
    cell_less f (Some r) None e h = absurd (false≢true e)
    cell_less f (Some r) (Some q) e h =
        ((merging f r q).0 (subst (λ z. Q (with_left f z)) (sym (merge_less f r q e)) h)).0

    -- An alternative that asks no more than another is met where the other is.
    pub met_less : (fs : List Formula) (p q : Pending) → asks_no_more fs p q ≡ true → Met fs q → Met fs p
    unfolding asks_no_more
    met_less [] p q e h = tt
    met_less (f ∷ fs) p q e h =
        let one = no_more_cell f (first_cell p) (first_cell q) in
        let more = asks_no_more fs (later_cells p) (later_cells q) in (
          cell_less f (first_cell p) (first_cell q) (and_left one more e) h.0,
          met_less fs (later_cells p) (later_cells q) (and_right one more e) h.1,
        )
