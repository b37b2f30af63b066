-- What holds of every set that progression gives: it is enough that it holds of the simplest sets, and that combining and joining keep it.
use Prim.Native.Nat.{ℕ, suc, ◌+◌}
use mathlib.Core.Bool.{Bool, true, false, ◌&&◌}
use Rattle.std.specs.Prelude.{None, Some}
use mathlib.Core.List.{List, [], ◌∷◌}
use Rattle.base.specs.Choice.{pick}
use Rattle.logic.specs.Time.{minus, at_most}
use Rattle.logic.specs.Tower.{Tower}
use Rattle.logic.specs.Book.{Formula, constant, proposition, and, or, next, always_for, until, compares, timed, size, nodes, first_part, second_part, root, Form, at_start, everywhere, Book}
use Rattle.logic.specs.declared.Tick.{Tick}
use Rattle.pending.specs.Pending.{Pending, holds, fresh}
use Rattle.alternatives.specs.Alternatives.{Alternatives, broken, combined, joined_with}
use Rattle.alternatives.specs.Progression.{nothing_pending, alone_pending, if_so, alternatives_of, combined_nodes, combined_rule, combined_rules, alternatives_behind, joined_behind, progressed_set}

-- Has holds of the simplest sets over the nodes fs, and combining and joining keep it.
pub record Closed (fs : List Formula) (Has : Alternatives → Type 0) : Type 0 where
  pub nothing : Has (nothing_pending fs)
  pub alone : (k : ℕ) (r : Tick) → Has (alone_pending fs k r)
  pub none_left : Has broken
  pub both : (s t : Alternatives) → Has s → Has t → Has (combined fs s t)
  pub either : (s t : Alternatives) → Has s → Has t → Has (joined_with fs s t)

module _ (fs : List Formula) (Has : Alternatives → Type 0) (closed : Closed fs Has) (tower : Tower) (x : ℕ) (d : Tick) where
  abbrev of : Formula → ℕ → Tick → Alternatives
  of f k r = alternatives_of tower fs x d f k r

  by_pick : (b : Bool) (s t : Alternatives) → Has s → Has t → Has (pick b (λ _. s) (λ _. t))
  by_pick true s t h k = h
  by_pick false s t h k = k

  by_if : (b : Bool) (s : Alternatives) → Has s → Has (if_so b s)
  unfolding if_so
  by_if b s h = by_pick b s broken h closed.none_left

  -- The alternatives of a node have it.
  pub of_has : (f : Formula) (k : ℕ) (r : Tick) → Has (alternatives_of tower fs x d f k r)
  unfolding alternatives_of
  of_has (constant b) k r = by_if (holds tower x (constant b)) (nothing_pending fs) closed.nothing
  of_has (proposition w m) k r = by_if (holds tower x (proposition w m)) (nothing_pending fs) closed.nothing
  of_has (and f g) k r = closed.both _ _ (of_has f (first_part k g) (fresh f)) (of_has g (second_part k) (fresh g))
  of_has (or f g) k r =
      let one : Alternatives = of f (first_part k g) (fresh f) in
      let two : Alternatives = of g (second_part k) (fresh g) in
      let first = of_has f (first_part k g) (fresh f) in
      let second = of_has g (second_part k) (fresh g) in
      let left : Alternatives = pick (holds tower x g) (λ _. nothing_pending fs) (λ _. one) in
      let right : Alternatives = pick (holds tower x f) (λ _. nothing_pending fs) (λ _. two) in
      by_pick (timed f && timed g) (joined_with fs one two) (pick (timed f) (λ _. left) (λ _. right)) (closed.either one two first second)
      (by_pick (timed f) left right (by_pick (holds tower x g) (nothing_pending fs) one closed.nothing first)
      (by_pick (holds tower x f) (nothing_pending fs) two closed.nothing second))
  of_has (next c t g) k r =
      by_if (compares c d t) (alone_pending fs (second_part k) (fresh g)) (closed.alone (second_part k) (fresh g))
  of_has (always_for t g) k r =
      let one : Alternatives = of g (second_part k) (fresh g) in
      let first = of_has g (second_part k) (fresh g) in
      by_pick (at_most d r) (combined fs one (alone_pending fs k (minus r d))) one
      (closed.both one (alone_pending fs k (minus r d)) first (closed.alone k (minus r d))) first
  of_has (until t f g) k r =
      let one : Alternatives = of f (first_part k g) (fresh f) in
      let on : Alternatives = combined fs one (alone_pending fs k (minus r d)) in
      by_pick (holds tower x g) (nothing_pending fs) (if_so (at_most d r) on) closed.nothing
      (by_if (at_most d r) on (closed.both one (alone_pending fs k (minus r d)) (of_has f (first_part k g) (fresh f))
      (closed.alone k (minus r d))))

  nodes_have : (gs : List Formula) (k : ℕ) (cells : Pending) (s : Alternatives) → Has s → Has (combined_nodes tower fs x d gs k cells s)
  unfolding combined_nodes
  nodes_have [] k cells s h = h
  nodes_have (g ∷ gs) k [] s h = h
  nodes_have (g ∷ gs) k (None ∷ cells) s h = nodes_have gs (suc k) cells s h
  nodes_have (g ∷ gs) k (Some r ∷ cells) s h =
      nodes_have gs (suc k) cells (combined fs s (of g k r)) (closed.both s (of g k r) h (of_has g k r))

  rule_has : (form : Form) (f : Formula) (k : ℕ) (s : Alternatives) → Has s → Has (combined_rule tower fs x d form f k s)
  unfolding combined_rule
  rule_has everywhere f k s h = closed.both s (of f k (fresh f)) h (of_has f k (fresh f))
  rule_has at_start f k s h = h

  rules_have : (rules : Book) (n : ℕ) (s : Alternatives) → Has s → Has (combined_rules tower fs x d rules n s)
  unfolding combined_rules
  rules_have [] n s h = h
  rules_have (rule ∷ rules) n s h =
      rules_have rules (n + size rule.formula) (combined_rule tower fs x d rule.form rule.formula (root n rule.formula) s)
      (rule_has rule.form rule.formula (root n rule.formula) s h)

module _ (tower : Tower) (book : Book) (Has : Alternatives → Type 0) (closed : Closed (nodes book) Has) (x : ℕ) (d : Tick) where
  -- What comes of one old alternative has it,
  pub behind_has : (p : Pending) → Has (alternatives_behind tower book x d p)
  unfolding alternatives_behind
  behind_has p =
      rules_have (nodes book) Has closed tower x d book 0
      (combined_nodes tower (nodes book) x d (nodes book) 0 p (nothing_pending (nodes book)))
      (nodes_have (nodes book) Has closed tower x d (nodes book) 0 p (nothing_pending (nodes book)) closed.nothing)

  joined_have : (ps : List Pending) (s : Alternatives) → Has s → Has (joined_behind tower book x d ps s)
  unfolding joined_behind
  joined_have [] s h = h
  joined_have (p ∷ ps) s h =
      joined_have ps (joined_with (nodes book) s (alternatives_behind tower book x d p))
      (closed.either s (alternatives_behind tower book x d p) h (behind_has p))

  -- and so has what comes of them all.
  pub progressed_has : (ps : List Pending) → Has (progressed_set tower book x d ps)
  unfolding progressed_set
  progressed_has ps = joined_have ps broken closed.none_left
