-- What is ahead in a run answers every bound: that the part of an A passes for a time is that it does not fail within it, and that a U passes
-- is that it ends within its bound.
use Prim.Native.Nat.{◌+◌, ◌-◌, ◌≤◌}
use native.Mathlib.Omega.{arith}
use mathlib.Core.Path.{◌≡◌, refl, sym, ap, ◌∙◌}
use mathlib.Core.Bool.{Bool, true, false, ◌&&◌, ◌||◌, not}
use mathlib.Core.List.{[], ◌∷◌}
use lib.Dec.{leb}
use borrow.Author.Tests.{leb-true, le-leb}
use Rattle.base.specs.Choice.{pick}
use Rattle.base.proofs.Lists.{same_truth, and_left, and_right, and_both}
use Rattle.logic.specs.Time.{plus, minus, at_most}
use Rattle.logic.specs.Tower.{Tower}
use Rattle.logic.specs.Runs.{Trace, duration}
use Rattle.logic.specs.declared.Tick.{Tick}
use Rattle.judging.specs.Judging.{passes_for, passes_until}
use Rattle.judging.specs.Ahead.{here, never, seen_before, comes_within, fails_ahead, ends_ahead}
use Rattle.std.specs.Prelude.{Option, Some, None}

-- what is here comes within any time
here_within : (t : Tick) → comes_within here t ≡ true
unfolding comes_within at_most
here_within t = le-leb 0 t.0 (omega arith)

-- two times one after the other fit into a time if the first does, and the second into what is left of it
pub plus_at_most : (d e t : Tick) → at_most (plus d e) t ≡ (at_most d t && at_most e (minus t d))
unfolding at_most plus minus
plus_at_most d e t =
    same_truth (leb (d.0 + e.0) t.0) (leb d.0 t.0 && leb e.0 (t.0 - d.0))
    (λ h. and_both (le-leb d.0 t.0 (omega (arith, leb-true))) (le-leb e.0 (t.0 - d.0) (omega (arith, leb-true))))
    (λ h. fits (leb-true d.0 t.0 (and_left (leb d.0 t.0) (leb e.0 (t.0 - d.0)) h))
    (leb-true e.0 (t.0 - d.0) (and_right (leb d.0 t.0) (leb e.0 (t.0 - d.0)) h)))
  where
    fits : d.0 ≤ t.0 → e.0 ≤ t.0 - d.0 → leb (d.0 + e.0) t.0 ≡ true
    fits first second = le-leb (d.0 + e.0) t.0 (omega arith)

-- what comes behind an action comes within a time if the action fits into it, and the rest into what is left of it
pub seen_within : (d t : Tick) (ahead : Option Tick) → comes_within (seen_before d ahead) t ≡ (at_most d t && comes_within ahead (minus t d))
unfolding comes_within seen_before
seen_within d t (Some ahead) = plus_at_most d ahead t
seen_within d t None = go (at_most d t)
  where
    go : (fits : Bool) → false ≡ (fits && false)
    go true = refl
    go false = refl

-- The part of an A passes for a time exactly if it does not fail within it.
pub passes_for_ahead : (tower : Tower) (g : Trace → Bool) (run : Trace) (t : Tick)
    → passes_for tower g run t ≡ not (comes_within (fails_ahead tower g run) t)
unfolding passes_for fails_ahead comes_within
passes_for_ahead tower g [] t = refl
passes_for_ahead tower g (m ∷ run) t = go (g (m ∷ run)) (passes_for_ahead tower g run (minus t (duration tower m)))
  where
    d : Tick
    d = duration tower m

    on : (fits passes comes : Bool) → passes ≡ not comes → pick fits (λ _. passes) (λ _. true) ≡ not (fits && comes)
    on true passes comes e = e
    on false passes comes e = refl

    go : (b : Bool) → passes_for tower g run (minus t d) ≡ not (comes_within (fails_ahead tower g run) (minus t d))
        → (b && pick (at_most d t) (λ _. passes_for tower g run (minus t d)) (λ _. true))
        ≡ not (comes_within (pick b (λ _. seen_before d (fails_ahead tower g run)) (λ _. here)) t)
    go true ih =
        on (at_most d t) (passes_for tower g run (minus t d)) (comes_within (fails_ahead tower g run) (minus t d)) ih
        ∙ ap not (sym (seen_within d t (fails_ahead tower g run)))
    go false ih = ap not (sym (here_within t))

-- A U passes exactly if it ends within its bound.
pub passes_until_ahead : (tower : Tower) (f g : Trace → Bool) (run : Trace) (t : Tick)
    → passes_until tower f g run t ≡ comes_within (ends_ahead tower f g run) t
unfolding passes_until ends_ahead comes_within
passes_until_ahead tower f g [] t = sym (here_within t)
passes_until_ahead tower f g (m ∷ run) t =
    go (g (m ∷ run)) (f (m ∷ run)) (passes_until_ahead tower f g run (minus t (duration tower m)))
  where
    d : Tick
    d = duration tower m

    go : (b c : Bool) → passes_until tower f g run (minus t d) ≡ comes_within (ends_ahead tower f g run) (minus t d)
        → (b || (c && (at_most d t && passes_until tower f g run (minus t d))))
        ≡ comes_within (pick b (λ _. here) (λ _. pick c (λ _. seen_before d (ends_ahead tower f g run)) (λ _. never))) t
    go true c ih = sym (here_within t)
    go false true ih = ap (λ (p : Bool). at_most d t && p) ih ∙ sym (seen_within d t (ends_ahead tower f g run))
    go false false ih = refl
