-- The alternatives behind a step depend on the tower only by the marks of the state that is left.
use Prim.Native.Nat.{ℕ, suc, ◌+◌}
use mathlib.Core.Path.{◌≡◌, refl, ◌∙◌, ap, ap₂}
use mathlib.Core.Bool.{◌&&◌}
use Rattle.std.specs.Prelude.{None, Some}
use mathlib.Core.List.{List, [], ◌∷◌}
use Rattle.base.specs.Choice.{pick}
use Rattle.logic.specs.Time.{minus, at_most}
use Rattle.logic.specs.Tower.{Tower}
use Rattle.logic.specs.Book.{Formula, constant, proposition, and, or, next, always_for, until, timed, size, nodes, first_part, second_part, Form, at_start, everywhere, Book, root}
use Rattle.logic.specs.declared.Tick.{Tick}
use Rattle.pending.specs.Pending.{Pending, fresh}
use Rattle.pending.proofs.Marks.{holds_same}
use Rattle.alternatives.specs.Alternatives.{Alternatives, broken, combined, joined_with}
use Rattle.alternatives.specs.Progression.{nothing_pending, alone_pending, if_so, alternatives_of, combined_nodes, combined_rule, combined_rules, alternatives_behind, joined_behind, progressed_set}

module _ (tower other : Tower) (x y : ℕ) (same : (k : ℕ) → tower.marked x k ≡ other.marked y k) (d : Tick) where
  module _ (fs : List Formula) where
    -- The alternatives of a node.
    pub of_same : (f : Formula) (k : ℕ) (r : Tick) → alternatives_of tower fs x d f k r ≡ alternatives_of other fs y d f k r
    unfolding alternatives_of
    of_same (constant b) k r = ap (λ z. if_so z (nothing_pending fs)) (holds_same tower other x y same (constant b))
    of_same (proposition wanted m) k r = ap (λ z. if_so z (nothing_pending fs)) (holds_same tower other x y same (proposition wanted m))
    of_same (and f g) k r = ap₂ (combined fs) (of_same f (first_part k g) (fresh f)) (of_same g (second_part k) (fresh g))
    of_same (or f g) k r =
        let one = of_same f (first_part k g) (fresh f) in
        let two = of_same g (second_part k) (fresh g) in
        ap₂ (λ s t. pick (timed f && timed g) (λ _. s) (λ _. t)) (ap₂ (joined_with fs) one two)
        (ap₂ (λ s t. pick (timed f) (λ _. s) (λ _. t))
        (ap₂ (λ b s. pick b (λ _. nothing_pending fs) (λ _. s)) (holds_same tower other x y same g) one)
        (ap₂ (λ b s. pick b (λ _. nothing_pending fs) (λ _. s)) (holds_same tower other x y same f) two))
    of_same (next c t g) k r = refl
    of_same (always_for t g) k r =
        ap (λ s. pick (at_most d r) (λ _. combined fs s (alone_pending fs k (minus r d))) (λ _. s)) (of_same g (second_part k) (fresh g))
    of_same (until t f g) k r =
        ap₂ (λ b s. pick b (λ _. nothing_pending fs) (λ _. if_so (at_most d r) (combined fs s (alone_pending fs k (minus r d)))))
        (holds_same tower other x y same g) (of_same f (first_part k g) (fresh f))

    nodes_same : (gs : List Formula) (k : ℕ) (cells : Pending) (s : Alternatives)
        → combined_nodes tower fs x d gs k cells s ≡ combined_nodes other fs y d gs k cells s
    unfolding combined_nodes
    nodes_same [] k cells s = refl
    nodes_same (g ∷ gs) k [] s = refl
    nodes_same (g ∷ gs) k (None ∷ cells) s = nodes_same gs (suc k) cells s
    nodes_same (g ∷ gs) k (Some r ∷ cells) s =
        ap (λ t. combined_nodes tower fs x d gs (suc k) cells (combined fs s t)) (of_same g k r)
        ∙ nodes_same gs (suc k) cells (combined fs s (alternatives_of other fs y d g k r))

    rule_same : (form : Form) (f : Formula) (k : ℕ) (s : Alternatives)
        → combined_rule tower fs x d form f k s ≡ combined_rule other fs y d form f k s
    unfolding combined_rule
    rule_same everywhere f k s = ap (combined fs s) (of_same f k (fresh f))
    rule_same at_start f k s = refl

    rules_same : (rules : Book) (n : ℕ) (s : Alternatives) → combined_rules tower fs x d rules n s ≡ combined_rules other fs y d rules n s
    unfolding combined_rules
    rules_same [] n s = refl
    rules_same (rule ∷ rules) n s =
        ap (combined_rules tower fs x d rules (n + size rule.formula)) (rule_same rule.form rule.formula (root n rule.formula) s)
        ∙ rules_same rules (n + size rule.formula) _

  -- What comes of one old alternative.
  pub behind_same : (book : Book) (p : Pending) → alternatives_behind tower book x d p ≡ alternatives_behind other book y d p
  unfolding alternatives_behind
  behind_same book p =
      ap (combined_rules tower (nodes book) x d book 0) (nodes_same (nodes book) (nodes book) 0 p (nothing_pending (nodes book)))
      ∙ rules_same (nodes book) book 0 _

  joined_same : (book : Book) (ps : List Pending) (s : Alternatives) → joined_behind tower book x d ps s ≡ joined_behind other book y d ps s
  unfolding joined_behind
  joined_same book [] s = refl
  joined_same book (p ∷ ps) s =
      ap (λ t. joined_behind tower book x d ps (joined_with (nodes book) s t)) (behind_same book p) ∙ joined_same book ps _

  -- Two states with the same marks, of whatever towers: the alternatives behind a step are the same.
  pub progressed_set_same : (book : Book) (ps : List Pending) → progressed_set tower book x d ps ≡ progressed_set other book y d ps
  unfolding progressed_set
  progressed_set_same book ps = joined_same book ps broken
