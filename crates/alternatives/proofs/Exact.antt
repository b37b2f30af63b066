-- The progression of a set offers exactly what the formulas ask: of one node, of all pending nodes, of all rules, and of all alternatives.
use Prim.Native.Nat.{ℕ, suc, ◌+◌}
use mathlib.Core.Path.{◌≡◌, refl, subst}
use mathlib.Core.Logic.Iff
use mathlib.Core.Logic.{◌⊎◌, ⊎_swap}
use mathlib.Core.Bool.{Bool, true, false, ◌&&◌, not, and-eq-true_iff, false≢true}
use Rattle.std.specs.Prelude.{None, Some}
use mathlib.Core.List.Memᴰ
use mathlib.Core.List.{List, [], ◌∷◌}
use borrow.Author.Tests.{not-true}
use Rattle.base.specs.Choice.{pick}
use Rattle.base.specs.Lists.{joined}
use Rattle.logic.specs.Time.{minus, at_most}
use Rattle.logic.specs.Tower.{Tower}
use Rattle.logic.specs.Book.{Formula, constant, proposition, and, or, next, always_for, until, Comparison, compares, timed, timed_right, parts, size, nodes, first_part, second_part, root, Form, at_start, everywhere, Book, FitBook}
use Rattle.logic.specs.Runs.{Moment, Trace, duration, KeptAt}
use Rattle.logic.specs.declared.Tick.{Tick}
use Rattle.pending.specs.Pending.{Pending, holds, fresh}
use Rattle.pending.specs.Asks.{with_left}
use Rattle.pending.proofs.Kept.{Now, Then, next_step, always_step, until_step}
use Rattle.pending.proofs.Nodes.{Stand, stand_left, stand_right, Sits, sits_within, sits_node, sits_first, sits_second, sits_only, sits_root, AllSit, TimedRight}
use Rattle.pending.proofs.Adds.{with_left_fresh, merge_law}
use Rattle.pending.proofs.Asked.{start_not_everywhere, Each, each_cons, holds_now, NodesNow, RuleNow}
use Rattle.alternatives.specs.Alternatives.{Alternatives, combined, joined_with}
use Rattle.alternatives.specs.Progression.{nothing_pending, alone_pending, if_so, alternatives_of, combined_nodes, combined_rule, combined_rules}
use Rattle.alternatives.proofs.Meets.{Merging}
use Rattle.alternatives.proofs.Offers.{Offers, offers_iff, offers_nothing, offers_alone, offers_if, offers_unless, offers_both, offers_either}

module _ (tower : Tower) (m : Moment) (run : Trace) (all : List Formula) where
  -- the formula is kept where the run begins with m, and where its rest begins
  abbrev Here : Formula → Type 0
  Here f = Now tower m run f

  abbrev Ahead : Formula → Type 0
  Ahead f = Then tower m run f

  -- the alternatives offer the claim P on the rest of the run
  abbrev Gives : Alternatives → Type 0 → Type 0
  Gives = Offers all Ahead

  pub merging : Merging Ahead
  merging = merge_law tower run

  -- what comes of a node, as the state is left
  abbrev step : Formula → ℕ → Tick → Alternatives
  step f k r = alternatives_of tower all m.state (duration tower m) f k r

  -- what is to be shown of a formula
  abbrev Right : Formula → Type 0
  Right f = (k : ℕ) (r : Tick) → Sits all f k → timed_right f ≡ true → Gives (step f k r) (Here (with_left f r))

  -- a part that comes up anew
  anew : (f : Formula) → Right f → (k : ℕ) → Sits all f k → timed_right f ≡ true → Gives (step f k (fresh f)) (Here f)
  anew f ih k sits fit = subst (λ g. Gives (step f k (fresh f)) (Here g)) (with_left_fresh f) (ih k (fresh f) sits fit)

  -- a node that becomes pending
  alone : (f : Formula) (k : ℕ) (r : Tick) → Sits all f k → Gives (alone_pending all k r) (Ahead (with_left f r))
  alone f k r sits =
      subst (λ g. Gives (alone_pending all k r) (Ahead (with_left g r))) (sits_node all f k sits)
      (offers_alone all Ahead k r (sits_within all f k sits))

  right_and : (f g : Formula) → Right f → Right g → Right (and f g)
  unfolding alternatives_of with_left KeptAt timed_right parts
  right_and f g left right k r sits fit =
      let (first, second) = (and-eq-true_iff (timed_right f) (timed_right g)).0 fit in
      offers_both all Ahead merging (step f (first_part k g) (fresh f)) (step g (second_part k) (fresh g)) (Here f) (Here g)
      (anew f left (first_part k g) (sits_first all (and f g) k sits f g refl) first)
      (anew g right (second_part k) (sits_second all (and f g) k sits f g refl) second)

  right_or : (f g : Formula) → Right f → Right g → Right (or f g)
  unfolding alternatives_of with_left KeptAt timed_right parts
  right_or f g left right k r sits fit =
      let (first, second) = (and-eq-true_iff (timed_right f) (timed_right g)).0 fit in
      go (timed f) (timed g) refl refl (anew f left (first_part k g) (sits_first all (or f g) k sits f g refl) first)
      (anew g right (second_part k) (sits_second all (or f g) k sits f g refl) second)
    where
      one : Alternatives
      one = step f (first_part k g) (fresh f)

      two : Alternatives
      two = step g (second_part k) (fresh g)

      go : (a b : Bool) → timed f ≡ a → timed g ≡ b → Gives one (Here f) → Gives two (Here g)
          → Gives (pick (a && b) (λ _. joined_with all one two)
          (λ _. pick a (λ _. pick (holds tower m.state g) (λ _. nothing_pending all) (λ _. one))
          (λ _. pick (holds tower m.state f) (λ _. nothing_pending all) (λ _. two)))) (Here f ⊎ Here g)
      go true true e u first second = offers_either all Ahead merging one two (Here f) (Here g) first second
      go true false e u first second =
          offers_iff all Ahead (pick (holds tower m.state g) (λ _. nothing_pending all) (λ _. one)) (Here g ⊎ Here f) (Here f ⊎ Here g)
          (⊎_swap, ⊎_swap)
          (offers_unless all Ahead (holds tower m.state g) one (Here g) (Here f) (holds_now tower m run g u) first)
      go false b e u first second =
          offers_unless all Ahead (holds tower m.state f) two (Here f) (Here g) (holds_now tower m run f e) second

  right_next : (c : Comparison) (t : Tick) (g : Formula) → Right (next c t g)
  unfolding alternatives_of with_left parts
  right_next c t g k r sits fit =
      offers_iff all Ahead (step (next c t g) k r) ((compares c (duration tower m) t ≡ true) × Ahead g) (Here (next c t g))
      (Iff.symm (next_step tower m run c t g))
      (offers_if all Ahead (compares c (duration tower m) t) (alone_pending all (second_part k) (fresh g)) (Ahead g)
      (subst (λ h. Gives (alone_pending all (second_part k) (fresh g)) (Ahead h)) (with_left_fresh g)
      (alone g (second_part k) (fresh g) (sits_only all (next c t g) k sits g refl))))

  right_always : (t : Tick) (g : Formula) → Right g → Right (always_for t g)
  unfolding alternatives_of with_left timed_right parts
  right_always t g part k r sits fit =
      offers_iff all Ahead (step (always_for t g) k r) (Here g × (at_most d r ≡ true → Ahead (always_for (minus r d) g)))
      (Here (always_for r g)) (Iff.symm (always_step tower m run r g))
      (go (at_most d r) (anew g part (second_part k) (sits_only all (always_for t g) k sits g refl) fit))
    where
      d : Tick
      d = duration tower m

      one : Alternatives
      one = step g (second_part k) (fresh g)

      go : (b : Bool) → Gives one (Here g)
          → Gives (pick b (λ _. combined all one (alone_pending all k (minus r d))) (λ _. one))
          (Here g × (b ≡ true → Ahead (always_for (minus r d) g)))
      go true first =
          offers_iff all Ahead (combined all one (alone_pending all k (minus r d))) (Here g × Ahead (always_for (minus r d) g))
          (Here g × (true ≡ true → Ahead (always_for (minus r d) g))) (λ h. (h.0, λ e. h.1), λ h. (h.0, h.1 refl))
          (offers_both all Ahead merging one (alone_pending all k (minus r d)) (Here g) (Ahead (always_for (minus r d) g)) first
          (alone (always_for t g) k (minus r d) sits))
      go false first =
          offers_iff all Ahead one (Here g) (Here g × (false ≡ true → Ahead (always_for (minus r d) g)))
          (λ h. (h, λ e. absurd (false≢true e)), λ h. h.0) first

  right_until : (t : Tick) (f g : Formula) → Right f → Right (until t f g)
  unfolding alternatives_of with_left timed_right parts
  right_until t f g part k r sits fit =
      let (end, both) = (and-eq-true_iff (not (timed g)) (timed_right f && timed_right g)).0 fit in
      let (first, second) = (and-eq-true_iff (timed_right f) (timed_right g)).0 both in
      offers_iff all Ahead (step (until t f g) k r) (Here g ⊎ Rest) (Here (until r f g)) (Iff.symm (until_step tower m run r f g))
      (offers_unless all Ahead (holds tower m.state g) (if_so (at_most d r) on) (Here g) Rest
      (holds_now tower m run g (not-true (timed g) end))
      (offers_if all Ahead (at_most d r) on (Here f × Ahead (until (minus r d) f g))
      (offers_both all Ahead merging (step f (first_part k g) (fresh f)) (alone_pending all k (minus r d)) (Here f)
      (Ahead (until (minus r d) f g)) (anew f part (first_part k g) (sits_first all (until t f g) k sits f g refl) first)
      (alone (until t f g) k (minus r d) sits))))
    where
      d : Tick
      d = duration tower m

      on : Alternatives
      on = combined all (step f (first_part k g) (fresh f)) (alone_pending all k (minus r d))

      Rest : Type 0
      Rest = (at_most d r ≡ true) × (Here f × Ahead (until (minus r d) f g))

  -- a constant or a mark is tested on the state
  right_test : (f : Formula) → timed f ≡ false → Gives (if_so (holds tower m.state f) (nothing_pending all)) (Here f)
  right_test f e =
      offers_iff all Ahead (if_so (holds tower m.state f) (nothing_pending all)) ((holds tower m.state f ≡ true) × Unit {0})
      (Here f) (λ h. (holds_now tower m run f e).0 h.0, λ h. ((holds_now tower m run f e).1 h, tt))
      (offers_if all Ahead (holds tower m.state f) (nothing_pending all) (Unit {0}) (offers_nothing all Ahead (Unit {0}) tt))

  -- The alternatives of a node offer what the node asks where the state is left.
  pub offers_node : (f : Formula) → Right f
  unfolding alternatives_of with_left timed
  offers_node (constant b) = λ k r sits fit. right_test (constant b) refl
  offers_node (proposition w n) = λ k r sits fit. right_test (proposition w n) refl
  offers_node (and f g) = right_and f g (offers_node f) (offers_node g)
  offers_node (or f g) = right_or f g (offers_node f) (offers_node g)
  offers_node (next c t g) = right_next c t g
  offers_node (always_for t g) = right_always t g (offers_node g)
  offers_node (until t f g) = right_until t f g (offers_node f)

  -- Combining every pending node adds what they all ask.
  pub offers_nodes : (gs : List Formula) (k : ℕ) (cells : Pending) (s : Alternatives) (P : Type 0) → AllSit TimedRight all gs k → Gives s P
      → Gives (combined_nodes tower all m.state (duration tower m) gs k cells s) (P × NodesNow tower m run gs cells)
  unfolding combined_nodes
  offers_nodes [] k cells s P sit o = offers_iff all Ahead s P (P × Unit {0}) (λ h. (h, tt), λ h. h.0) o
  offers_nodes (g ∷ gs) k [] s P sit o = offers_iff all Ahead s P (P × Unit {0}) (λ h. (h, tt), λ h. h.0) o
  offers_nodes (g ∷ gs) k (None ∷ cells) s P sit o = offers_nodes gs (suc k) cells s P sit.1 o
  offers_nodes (g ∷ gs) k (Some r ∷ cells) s P sit o =
      offers_iff all Ahead (combined_nodes tower all m.state (duration tower m) gs (suc k) cells (combined all s (step g k r)))
      ((P × Here (with_left g r)) × NodesNow tower m run gs cells) (P × (Here (with_left g r) × NodesNow tower m run gs cells))
      (λ h. (h.0.0, (h.0.1, h.1)), λ h. ((h.0, h.1.0), h.1.1))
      (offers_nodes gs (suc k) cells (combined all s (step g k r)) (P × Here (with_left g r)) sit.1
      (offers_both all Ahead merging s (step g k r) P (Here (with_left g r)) o (offers_node g k r sit.0.0 sit.0.1)))

  -- one rule: it is kept now if it is an `always` rule
  offers_rule : (form : Form) (f : Formula) (k : ℕ) (s : Alternatives) (P : Type 0) → Sits all f k → timed_right f ≡ true → Gives s P
      → Gives (combined_rule tower all m.state (duration tower m) form f k s) (P × (form ≡ everywhere → Here f))
  unfolding combined_rule
  offers_rule everywhere f k s P sits fit o =
      offers_iff all Ahead (combined all s (step f k (fresh f))) (P × Here f) (P × (everywhere ≡ everywhere → Here f))
      (λ h. (h.0, λ e. h.1), λ h. (h.0, h.1 refl))
      (offers_both all Ahead merging s (step f k (fresh f)) P (Here f) o (anew f (offers_node f) k sits fit))
  offers_rule at_start f k s P sits fit o =
      offers_iff all Ahead s P (P × (at_start ≡ everywhere → Here f)) (λ h. (h, λ e. absurd (start_not_everywhere e)), λ h. h.0) o

  -- Combining every rule adds what the `always` rules ask now.
  pub offers_rules : (rules : Book) (n : ℕ) (s : Alternatives) (P : Type 0) → Stand all n (nodes rules) → FitBook rules → Gives s P
      → Gives (combined_rules tower all m.state (duration tower m) rules n s) (P × Each rules (RuleNow tower m run))
  unfolding combined_rules nodes joined FitBook size
  offers_rules [] n s P stand fit o =
      offers_iff all Ahead s P (P × Each [] (RuleNow tower m run))
      (λ h. (h, λ rule listed. absurd (Memᴰ.not-nil listed)), λ h. h.0) o
  offers_rules (rule ∷ rules) n s P stand fit o =
      offers_iff all Ahead (combined_rules tower all m.state (duration tower m) rules (n + size rule.formula) next)
      ((P × RuleNow tower m run rule) × Each rules (RuleNow tower m run)) (P × Each (rule ∷ rules) (RuleNow tower m run)) (
        λ h. (h.0.0, (each_cons rule rules (RuleNow tower m run)).1 (h.0.1, h.1)),
        λ h. let both = (each_cons rule rules (RuleNow tower m run)).0 h.1 in ((h.0, both.0), both.1),
      )
      (offers_rules rules (n + size rule.formula) next (P × RuleNow tower m run rule)
      (stand_right all n (parts rule.formula) (nodes rules) stand) (λ other listed. fit other (Memᴰ.tail listed))
      (offers_rule rule.form rule.formula (root n rule.formula) s P
      (sits_root all rule.formula n (stand_left all n (parts rule.formula) (nodes rules) stand)) (fit rule (Memᴰ.head refl)) o))
    where
      next : Alternatives
      next = combined_rule tower all m.state (duration tower m) rule.form rule.formula (root n rule.formula) s
