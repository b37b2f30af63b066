-- What becomes of pending obligations when one more claim on the rest of the run is added.
use Prim.Native.Nat.{ℕ, ◌<◌}
use native.Mathlib.Decide.{ℕ_discrete}
use native.Mathlib.Omega.{arith}
use mathlib.Core.Path.{◌≡◌, refl, sym, ◌∙◌, ap, subst}
use mathlib.Core.Logic.{◌↔◌}
use mathlib.Core.Bool.{false}
use Rattle.std.specs.Prelude.{Option, None, Some}
use Rattle.base.specs.Options.{bind}
use Rattle.base.proofs.Options.{some-injective, none-ne-some}
use mathlib.Core.List.{List}
use lib.ListN.{length, get_or, set, length-set}
use lib.Seq.{get_or-set_same, get_or-set_other}
use Rattle.logic.specs.Time.{position}
use Rattle.logic.specs.Tower.{Tower}
use Rattle.logic.specs.Book.{Formula, constant, proposition, and, or, next, always_for, until}
use Rattle.logic.specs.Runs.{Trace, Kept}
use Rattle.logic.specs.declared.Tick.{Tick}
use Rattle.pending.specs.Pending.{Pending, fresh, merge, coming, put}
use Rattle.pending.specs.Asks.{with_left}
use Rattle.pending.proofs.Kept.{always_merge, until_merge}
use Rattle.pending.proofs.Nodes.{Sits, sits_within, sits_node}

-- A new node asks what its formula asks.
pub with_left_fresh : (f : Formula) → with_left f (fresh f) ≡ f
unfolding with_left fresh
with_left_fresh (constant b) = refl
with_left_fresh (proposition w k) = refl
with_left_fresh (and f g) = refl
with_left_fresh (or f g) = refl
with_left_fresh (next c t g) = refl
with_left_fresh (always_for t g) = refl
with_left_fresh (until t f g) = refl

module _ (tower : Tower) (run : Trace) where
  -- the formula is kept at once
  abbrev At : Formula → Type 0
  At f = Kept tower run f (position 0)

  -- One node with two numbers asks what the merged number asks.
  pub merge_law : (f : Formula) (r q : Tick) → At (with_left f (merge f r q)) ↔ (At (with_left f r) × At (with_left f q))
  unfolding with_left merge
  merge_law (constant b) r q = (λ h. (h, h), λ h. h.0)
  merge_law (proposition w k) r q = (λ h. (h, h), λ h. h.0)
  merge_law (and f g) r q = (λ h. (h, h), λ h. h.0)
  merge_law (or f g) r q = (λ h. (h, h), λ h. h.0)
  merge_law (next c t g) r q = (λ h. (h, h), λ h. h.0)
  merge_law (always_for t g) r q = always_merge tower run (position 0) r q g
  merge_law (until t f g) r q = until_merge tower run (position 0) r q f g

  -- a node that comes up asks what it asks beside what was pending of it
  coming_law : (f : Formula) (r : Tick) (o : Option Tick)
      → At (with_left f (coming f r o)) ↔ (At (with_left f r) × ((q : Tick) → o ≡ Some q → At (with_left f q)))
  unfolding coming
  coming_law f r None = (λ h. (h, λ q e. absurd (none-ne-some q e)), λ h. h.0)
  coming_law f r (Some s) = (
    λ h. (((merge_law f r s).0 h).0, λ q e. subst (λ z. At (with_left f z)) (some-injective s q e) ((merge_law f r s).0 h).1),
    λ h. (merge_law f r s).1 (h.0, h.1 s refl),
  )

  module _ (all : List Formula) where
    -- The rest of the run meets what is pending: each pending node is kept at once.
    abbrev pub Sat : Pending → Type 0
    Sat p = (k : ℕ) (r : Tick) → k < length all → get_or p k None ≡ Some r → At (with_left (get_or all k (constant false)) r)

    -- o is what comes of the pending p when the claim P on the rest of the run is added: nothing if the two cannot be met together.
    abbrev pub Adds : Option Pending → Pending → Type 0 → Type 0
    Adds None p P = Sat p → P → ⊥
    Adds (Some q) p P = (length q ≡ length p) × (Sat q ↔ (Sat p × P))

    -- The claim may be put in other words.
    pub adds_iff : (o : Option Pending) (p : Pending) (P Q : Type 0) → P ↔ Q → Adds o p P → Adds o p Q
    adds_iff None p P Q e d = λ s h. d s (e.1 h)
    adds_iff (Some q) p P Q e d = (d.0, (λ s. ((d.1.0 s).0, e.0 (d.1.0 s).1), λ s. d.1.1 (s.0, e.1 s.1)))

    -- A claim that holds adds nothing.
    pub adds_nothing : (p : Pending) (P : Type 0) → P → Adds (Some p) p P
    adds_nothing p P h = (refl, (λ s. (s, h), λ s. s.0))

    -- One claim after another.
    pub adds_both : (o : Option Pending) (f : Pending → Option Pending) (p : Pending) (P Q : Type 0) → Adds o p P
        → ((q : Pending) → length q ≡ length p → Adds (f q) q Q) → Adds (bind o f) p (P × Q)
    unfolding bind
    adds_both None f p P Q d then = λ s h. d s h.0
    adds_both (Some q) f p P Q d then = go (f q) (then q d.0)
      where
        go : (o : Option Pending) → Adds o q Q → Adds o p (P × Q)
        go None n = λ s h. n (d.1.1 (s, h.0)) h.1
        go (Some z) n = (
          n.0 ∙ d.0,
          (
            λ s. ((d.1.0 (n.1.0 s).0).0, ((d.1.0 (n.1.0 s).0).1, (n.1.0 s).1)),
            λ s. n.1.1 (d.1.1 (s.0, s.1.0), s.1.1),
          ),
        )

    -- A node that becomes pending adds what it asks.
    pub adds_put : (f : Formula) (k : ℕ) (r : Tick) (p : Pending) → Sits all f k → length p ≡ length all
        → Adds (Some (put f k r p)) p (At (with_left f r))
    unfolding put
    adds_put f k r p sits sized = (length-set p k _, (out, into))
      where
        within : k < length all
        within = sits_within all f k sits

        node : get_or all k (constant false) ≡ f
        node = sits_node all f k sits

        number : Tick
        number = coming f r (get_or p k None)

        there : get_or (set p k (Some number)) k None ≡ Some number
        there = get_or-set_same p k (Some number) None (omega (arith, within))

        beside : Sat (set p k (Some number)) → At (with_left f r) × ((q : Tick) → get_or p k None ≡ Some q → At (with_left f q))
        beside s = (coming_law f r (get_or p k None)).0 (subst (λ g. At (with_left g number)) node (s k number within there))

        out : Sat (set p k (Some number)) → Sat p × At (with_left f r)
        out s = (λ j q below e. go j q below e (ℕ_discrete j k), (beside s).0)
          where
            go : (j : ℕ) (q : Tick) → j < length all → get_or p j None ≡ Some q → Dec (j ≡ k)
                → At (with_left (get_or all j (constant false)) q)
            go j q below e (yes same) =
                subst (λ i. At (with_left (get_or all i (constant false)) q)) (sym same) (subst (λ g. At (with_left g q)) (sym node)
                ((beside s).1 q (ap (λ i. get_or p i None) (sym same) ∙ e)))
            go j q below e (no other) = s j q below (get_or-set_other p k j (Some number) None other ∙ e)

        into : Sat p × At (with_left f r) → Sat (set p k (Some number))
        into (s, h) j q below e = go (ℕ_discrete j k)
          where
            merged : At (with_left f number)
            merged = (coming_law f r (get_or p k None)).1 (h, λ z there. subst (λ g. At (with_left g z)) node (s k z within there))

            go : Dec (j ≡ k) → At (with_left (get_or all j (constant false)) q)
            go (yes same) =
                let at : get_or (set p k (Some number)) k None ≡ Some q = ap (λ i. get_or (set p k (Some number)) i None) (sym same) ∙ e in
                let is : number ≡ q = some-injective number q (sym there ∙ at) in
                subst (λ i. At (with_left (get_or all i (constant false)) q)) (sym same)
                (subst (λ g. At (with_left g q)) (sym node) (subst (λ z. At (with_left f z)) is merged))
            go (no other) = s j q below (sym (get_or-set_other p k j (Some number) None other) ∙ e)
