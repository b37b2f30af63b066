-- Progression behind what is pending is both of that and progression from nothing: the laws of both of two alternatives, and what the steps
-- of progression add.
use Prim.Native.Nat.{ℕ, zero, suc, ◌+◌, ◌<◌, max, min}
use native.Mathlib.Omega.{arith}
use mathlib.Core.Path.{◌≡◌, refl, sym, ◌∙◌, ap, ap₂, subst}
use mathlib.Core.Bool.{Bool, true, false}
use Rattle.std.specs.Prelude.{Option, None, Some, option_map}
use Rattle.base.specs.Options.{bind}
use mathlib.Core.List.{List, [], ◌∷◌}
use lib.ListN.{length, get_or, set, replicate, length-replicate, length-set}
use Rattle.base.specs.Choice.{pick}
use Rattle.base.specs.Lists.{joined}
use Rattle.logic.specs.Time.{ticks, minus, at_most, longer, shorter}
use Rattle.logic.specs.Tower.{Tower}
use Rattle.logic.specs.Book.{Formula, constant, proposition, and, or, next, always_for, until, compares, timed, parts, size, nodes, first_part, second_part, root, Form, at_start, everywhere, Book}
use Rattle.logic.specs.declared.Tick.{Tick}
use Rattle.pending.specs.Pending.{Pending, holds, fresh, merge, coming, put, provided, progress, progress_nodes, progress_rule, progress_rules}
use Rattle.pending.proofs.Nodes.{Stand, stand_left, stand_right, Sits, sits_first, sits_second, sits_only, sits_root, sits_within, sits_node, AllSit}
use Rattle.alternatives.specs.Alternatives.{first_cell, later_cells, both_cells, both}
use Rattle.alternatives.proofs.Antichain.{both_sized}

-- ---- both of two alternatives

-- nothing is pending of the nodes fs
abbrev pub blank : List Formula → Pending
blank fs = replicate (length fs) None

cells_right : (f : Formula) (o : Option Tick) → both_cells f o None ≡ o
unfolding both_cells
cells_right f None = refl
cells_right f (Some r) = refl

-- Both of nothing and q are q,
pub both_blank_left : (fs : List Formula) (q : Pending) → length q ≡ length fs → both fs (blank fs) q ≡ q
unfolding both both_cells first_cell later_cells
both_blank_left [] [] e = refl
both_blank_left [] (o ∷ q) e = absurd (omega arith)
both_blank_left (f ∷ fs) [] e = absurd (omega arith)
both_blank_left (f ∷ fs) (o ∷ q) e = ap (λ z. o ∷ z) (both_blank_left fs q (omega arith))

-- and both of p and nothing are p.
pub both_blank_right : (fs : List Formula) (p : Pending) → length p ≡ length fs → both fs p (blank fs) ≡ p
unfolding both first_cell later_cells
both_blank_right [] [] e = refl
both_blank_right [] (o ∷ p) e = absurd (omega arith)
both_blank_right (f ∷ fs) [] e = absurd (omega arith)
both_blank_right (f ∷ fs) (o ∷ p) e = ap₂ ◌∷◌ (cells_right f o) (both_blank_right fs p (omega arith))

max_assoc : (a b c : ℕ) → max a (max b c) ≡ max (max a b) c
max_assoc a b c = omega arith

min_assoc : (a b c : ℕ) → min a (min b c) ≡ min (min a b) c
min_assoc a b c = omega arith

-- of three numbers any two may be merged first
merge_assoc : (f : Formula) (r q s : Tick) → merge f r (merge f q s) ≡ merge f (merge f r q) s
unfolding merge longer shorter
merge_assoc (constant b) r q s = refl
merge_assoc (proposition w k) r q s = refl
merge_assoc (and f g) r q s = refl
merge_assoc (or f g) r q s = refl
merge_assoc (next c t g) r q s = refl
merge_assoc (always_for t g) r q s = ap ticks (max_assoc r.0 q.0 s.0)
merge_assoc (until t f g) r q s = ap ticks (min_assoc r.0 q.0 s.0)

cells_assoc : (f : Formula) (o u v : Option Tick) → both_cells f (both_cells f o u) v ≡ both_cells f o (both_cells f u v)
unfolding both_cells
cells_assoc f None u v = refl
cells_assoc f (Some r) None v = refl
cells_assoc f (Some r) (Some q) None = refl
cells_assoc f (Some r) (Some q) (Some s) = ap (λ z. Some z) (merge_assoc f s q r)

-- Of three alternatives any two may be taken first.
pub both_assoc : (fs : List Formula) (p q z : Pending) → both fs (both fs p q) z ≡ both fs p (both fs q z)
unfolding both first_cell later_cells
both_assoc [] p q z = refl
both_assoc (f ∷ fs) p q z =
    ap₂ ◌∷◌ (cells_assoc f (first_cell p) (first_cell q) (first_cell z)) (both_assoc fs (later_cells p) (later_cells q) (later_cells z))

-- a node that comes up in one cell
cells_coming : (f : Formula) (r : Tick) (o : Option Tick) → Some (coming f r o) ≡ both_cells f o (Some r)
unfolding both_cells coming
cells_coming f r None = refl
cells_coming f r (Some q) = refl

-- a node becomes pending in one row of cells
put_row : (fs : List Formula) (f : Formula) (k : ℕ) (r : Tick) (p : Pending) → k < length fs → get_or fs k (constant false) ≡ f
    → length p ≡ length fs → put f k r p ≡ both fs p (set (blank fs) k (Some r))
unfolding put both first_cell later_cells
put_row [] f k r p below node e = absurd (omega arith)
put_row (g ∷ fs) f k r [] below node e = absurd (omega arith)
put_row (g ∷ fs) f zero r (o ∷ p) below node e =
    ap₂ ◌∷◌ (cells_coming f r o ∙ ap (λ h. both_cells h o (Some r)) (sym node)) (sym (both_blank_right fs p (omega arith)))
put_row (g ∷ fs) f (suc k) r (o ∷ p) below node e =
    ap₂ ◌∷◌ (sym (cells_right g o)) (put_row fs f k r p (omega arith) node (omega arith))

-- A node becomes pending: both of what was and of it alone.
pub put_both : (all : List Formula) (f : Formula) (k : ℕ) (r : Tick) (p : Pending) → Sits all f k → length p ≡ length all
    → put f k r p ≡ both all p (set (blank all) k (Some r))
put_both all f k r p sits sized = put_row all f k r p (sits_within all f k sits) (sits_node all f k sits) sized

-- nothing has a cell for each node
pub blank_sized : (all : List Formula) → length (blank all) ≡ length all
blank_sized all = length-replicate {A = Option Tick} (length all) None

-- ---- what a step of progression adds

module _ (all : List Formula) where
  -- What is there has a cell for each node.
  abbrev pub Sized : Option Pending → Type 0
  Sized None = Unit {0}
  Sized (Some q) = length q ≡ length all

  -- Behind whatever is pending F gives both of that and of what it gives from nothing.
  abbrev pub Behind : (Pending → Option Pending) → Type 0
  Behind F = (p : Pending) → length p ≡ length all → F p ≡ option_map (both all p) (F (blank all))

  -- both of two have one
  both_keeps : (p : Pending) (o : Option Pending) → Sized (option_map (both all p) o)
  both_keeps p None = tt
  both_keeps p (Some q) = both_sized all p q

  -- Such a step keeps a cell for each node.
  pub behind_sized : (F : Pending → Option Pending) → Behind F → (p : Pending) → length p ≡ length all → Sized (F p)
  behind_sized F adds p sized = subst Sized (sym (adds p sized)) (both_keeps p (F (blank all)))

  -- Nothing is added.
  pub behind_some : Behind (λ p. Some p)
  behind_some p sized = ap (λ z. Some z) (sym (both_blank_right all p sized))

  -- The step is broken.
  pub behind_none : Behind (λ p. None)
  behind_none p sized = refl

  -- One step after another.
  pub behind_bind : (F G : Pending → Option Pending) → Behind F → Behind G → Behind (λ p. bind (F p) G)
  unfolding bind
  behind_bind F G first second p sized =
      ap (λ o. bind o G) (first p sized) ∙ go (F (blank all)) (behind_sized F first (blank all) (blank_sized all))
    where
      regroup : (q : Pending) (o : Option Pending) → option_map (both all (both all p q)) o ≡ option_map (both all p) (option_map (both all q) o)
      regroup q None = refl
      regroup q (Some z) = ap (λ v. Some v) (both_assoc all p q z)

      go : (o : Option Pending) → Sized o → bind (option_map (both all p) o) G ≡ option_map (both all p) (bind o G)
      go None keeps = refl
      go (Some q) keeps =
          second (both all p q) (both_sized all p q) ∙ regroup q (G (blank all)) ∙ ap (option_map (both all p)) (sym (second q keeps))

  -- One step or another.
  pub behind_pick : (b : Bool) (F G : Pending → Option Pending) → Behind F → Behind G → Behind (λ p. pick b (λ _. F p) (λ _. G p))
  behind_pick true F G one other = one
  behind_pick false F G one other = other

  -- A test that has to hold.
  pub behind_provided : (b : Bool) (F : Pending → Option Pending) → Behind F → Behind (λ p. provided b (F p))
  unfolding provided
  behind_provided b F adds = behind_pick b F (λ p. None) adds behind_none

  -- A node alone is what becomes pending of it from nothing.
  pub put_alone : (f : Formula) (k : ℕ) (r : Tick) → Sits all f k → put f k r (blank all) ≡ set (blank all) k (Some r)
  put_alone f k r sits =
      put_both all f k r (blank all) sits (blank_sized all)
      ∙ both_blank_left all (set (blank all) k (Some r)) (length-set (blank all) k (Some r) ∙ blank_sized all)

  -- A node becomes pending.
  pub behind_put : (f : Formula) (k : ℕ) (r : Tick) → Sits all f k → Behind (λ p. Some (put f k r p))
  behind_put f k r sits p sized = ap (λ z. Some z) (put_both all f k r p sits sized ∙ ap (both all p) (sym (put_alone f k r sits)))

  -- A node becomes pending if a test holds.
  pub behind_put_if : (b : Bool) (f : Formula) (k : ℕ) (r : Tick) → Sits all f k → Behind (λ p. Some (pick b (λ _. put f k r p) (λ _. p)))
  behind_put_if true f k r sits = behind_put f k r sits
  behind_put_if false f k r sits = behind_some

  module _ (tower : Tower) (x : ℕ) (d : Tick) where
    -- Behind p the progression of a node gives both of p and of what it gives from nothing.
    pub behind_progress : (f : Formula) (k : ℕ) (r : Tick) → Sits all f k → Behind (progress tower x d f k r)
    unfolding progress parts
    behind_progress (constant b) k r sits = behind_provided (holds tower x (constant b)) (λ p. Some p) behind_some
    behind_progress (proposition w m) k r sits = behind_provided (holds tower x (proposition w m)) (λ p. Some p) behind_some
    behind_progress (and f g) k r sits =
        behind_bind (progress tower x d f (first_part k g) (fresh f)) (progress tower x d g (second_part k) (fresh g))
        (behind_progress f (first_part k g) (fresh f) (sits_first all (and f g) k sits f g refl))
        (behind_progress g (second_part k) (fresh g) (sits_second all (and f g) k sits f g refl))
    behind_progress (or f g) k r sits =
        let first = progress tower x d f (first_part k g) (fresh f) in
        let second = progress tower x d g (second_part k) (fresh g) in
        behind_pick (timed f) (λ p. pick (holds tower x g) (λ _. Some p) (λ _. first p))
        (λ p. pick (holds tower x f) (λ _. Some p) (λ _. second p))
        (behind_pick (holds tower x g) (λ p. Some p) first behind_some
        (behind_progress f (first_part k g) (fresh f) (sits_first all (or f g) k sits f g refl)))
        (behind_pick (holds tower x f) (λ p. Some p) second behind_some
        (behind_progress g (second_part k) (fresh g) (sits_second all (or f g) k sits f g refl)))
    behind_progress (next c t g) k r sits =
        behind_provided (compares c d t) (λ p. Some (put g (second_part k) (fresh g) p))
        (behind_put g (second_part k) (fresh g) (sits_only all (next c t g) k sits g refl))
    behind_progress (always_for t g) k r sits =
        behind_bind (progress tower x d g (second_part k) (fresh g))
        (λ q. Some (pick (at_most d r) (λ _. put (always_for t g) k (minus r d) q) (λ _. q)))
        (behind_progress g (second_part k) (fresh g) (sits_only all (always_for t g) k sits g refl))
        (behind_put_if (at_most d r) (always_for t g) k (minus r d) sits)
    behind_progress (until t f g) k r sits =
        let on : Pending → Option Pending = λ q. Some (put (until t f g) k (minus r d) q) in
        let first = progress tower x d f (first_part k g) (fresh f) in
        behind_pick (holds tower x g) (λ p. Some p) (λ p. provided (at_most d r) (bind (first p) on)) behind_some
        (behind_provided (at_most d r) (λ p. bind (first p) on)
        (behind_bind first on (behind_progress f (first_part k g) (fresh f) (sits_first all (until t f g) k sits f g refl))
        (behind_put (until t f g) k (minus r d) sits)))

    -- Behind p that of every pending node in turn gives both too,
    pub behind_nodes : (Has : Formula → Type 0) (fs : List Formula) (k : ℕ) (cells : Pending) → AllSit Has all fs k
        → Behind (progress_nodes tower x d fs k cells)
    unfolding progress_nodes
    behind_nodes Has [] k cells sit = behind_some
    behind_nodes Has (f ∷ fs) k [] sit = behind_some
    behind_nodes Has (f ∷ fs) k (None ∷ cells) sit = behind_nodes Has fs (suc k) cells sit.1
    behind_nodes Has (f ∷ fs) k (Some r ∷ cells) sit =
        behind_bind (progress tower x d f k r) (progress_nodes tower x d fs (suc k) cells) (behind_progress f k r sit.0.0)
        (behind_nodes Has fs (suc k) cells sit.1)

    -- of one rule,
    pub behind_rule : (form : Form) (f : Formula) (k : ℕ) → Sits all f k → Behind (progress_rule tower x d form f k)
    unfolding progress_rule
    behind_rule everywhere f k sits = behind_progress f k (fresh f) sits
    behind_rule at_start f k sits = behind_some

    -- and of every rule in turn.
    pub behind_rules : (rules : Book) (n : ℕ) → Stand all n (nodes rules) → Behind (progress_rules tower x d rules n)
    unfolding progress_rules nodes joined size
    behind_rules [] n stand = behind_some
    behind_rules (rule ∷ rules) n stand =
        behind_bind (progress_rule tower x d rule.form rule.formula (root n rule.formula))
        (progress_rules tower x d rules (n + size rule.formula))
        (behind_rule rule.form rule.formula (root n rule.formula)
        (sits_root all rule.formula n (stand_left all n (parts rule.formula) (nodes rules) stand)))
        (behind_rules rules (n + size rule.formula) (stand_right all n (parts rule.formula) (nodes rules) stand))
