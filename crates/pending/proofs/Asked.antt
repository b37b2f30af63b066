-- A run and what is pending as it begins: what is asked where its first state is left, and where the run itself begins.
use Prim.Native.Nat.{ℕ, zero, suc, ◌+◌, ◌<◌}
use native.Mathlib.Omega.{arith}
use mathlib.Core.Path.{◌≡◌, refl, sym, ◌∙◌, subst}
use mathlib.Core.Logic.Iff
use mathlib.Core.Logic.{⊎_elim, ⊎_map, ◌↔◌}
use mathlib.Core.Bool.{true, false, and-eq-true_iff, true≢false}
use Rattle.std.specs.Prelude.{Option, None, Some}
use Rattle.base.specs.Options.{bind}
use Rattle.base.proofs.Options.{none-ne-some, some-injective}
use mathlib.Core.List.Memᴰ
use mathlib.Core.List.{List, [], ◌∷◌, append-nil, Memᴰ}
use lib.ListN.{length, get_or, length-replicate, get_or-replicate}
use Rattle.base.specs.Lists.{joined}
use Rattle.base.proofs.Lists.{or_fails_left, or_fails_right, or_cases, or_left, or_right, beq_out, beq_in}
use Rattle.logic.specs.Time.{position}
use Rattle.logic.specs.Tower.{Tower}
use Rattle.logic.specs.Book.{Formula, constant, proposition, and, or, next, always_for, until, timed, parts, size, nodes, root, Form, at_start, everywhere, Rule, Book}
use Rattle.logic.specs.Runs.{Moment, Trace, moment, trace_from, trace, Judged, Kept, KeptAt, KeptRule, Unbroken}
use Rattle.logic.specs.declared.Tick.{Tick}
use Rattle.pending.specs.Pending.{Pending, holds, fresh, put, none_pending, begin_rule, begin_rules, first_pending}
use Rattle.pending.specs.Asks.{with_left, Fulfils}
use Rattle.pending.proofs.Kept.{Now, kept_now, rule_step, rule_end}
use Rattle.pending.proofs.Nodes.{Stand, stand_left, stand_right, Sits, sits_root}
use Rattle.pending.proofs.Adds.{with_left_fresh, Sat, Adds, adds_iff, adds_nothing, adds_both, adds_put}

-- a `start` rule is no `always` rule
pub start_not_everywhere : at_start ≡ everywhere → ⊥
start_not_everywhere e = let z : ◌≡◌ {A = ℕ} 0 1 = cc in omega arith

-- Every rule of the book is as said.
abbrev pub Each : Book → (Rule → Type 0) → Type 0
Each rules P = (rule : Rule) → Memᴰ rule rules → P rule

-- the first rule and the others
pub each_cons : (rule : Rule) (rules : Book) (P : Rule → Type 0) → Each (rule ∷ rules) P ↔ (P rule × Each rules P)
each_cons rule rules P = (
  λ h. (h rule (Memᴰ.head refl), λ other listed. h other (Memᴰ.tail listed)),
  λ h other listed. ⊎_elim (λ same. subst P (sym same) h.0) (λ later. h.1 other later) (Memᴰ.cases_cons listed),
)

module _ (tower : Tower) (m : Moment) (run : Trace) where
  -- the formula is kept where the run begins with m
  abbrev Here : Formula → Type 0
  Here f = Now tower m run f

  -- An untimed formula is kept where it holds.
  pub holds_now : (f : Formula) → timed f ≡ false → (holds tower m.state f ≡ true) ↔ Here f
  unfolding holds timed KeptAt moment
  holds_now (constant b) e = Iff.rfl
  holds_now (proposition w k) e = (beq_out (tower.marked m.state k) w, beq_in (tower.marked m.state k) w)
  holds_now (and f g) e =
      Iff.trans (and-eq-true_iff (holds tower m.state f) (holds tower m.state g))
      (Iff.and (holds_now f (or_fails_left (timed f) (timed g) e)) (holds_now g (or_fails_right (timed f) (timed g) e)))
  holds_now (or f g) e =
      let left = holds_now f (or_fails_left (timed f) (timed g) e) in
      let right = holds_now g (or_fails_right (timed f) (timed g) e) in (
        λ h. ⊎_map left.0 right.0 (or_cases (holds tower m.state f) (holds tower m.state g) h),
        ⊎_elim (λ h. or_left (holds tower m.state g) (left.1 h)) (λ h. or_right (holds tower m.state f) (right.1 h)),
      )
  holds_now (next c t g) e = absurd (true≢false e)
  holds_now (always_for t g) e = absurd (true≢false e)
  holds_now (until t f g) e = absurd (true≢false e)

  -- the formula of each pending cell is kept now; fs are the nodes of the cells
  abbrev pub NodesNow : List Formula → Pending → Type 0
  NodesNow [] cells = Unit {0}
  NodesNow (f ∷ fs) [] = Unit {0}
  NodesNow (f ∷ fs) (None ∷ cells) = NodesNow fs cells
  NodesNow (f ∷ fs) (Some r ∷ cells) = Here (with_left f r) × NodesNow fs cells

  -- Each cell's formula is kept now if this is so of each node by its number.
  pub nodes_out : (fs : List Formula) (cells : Pending) → NodesNow fs cells
      → (k : ℕ) (r : Tick) → k < length fs → get_or cells k None ≡ Some r → Here (with_left (get_or fs k (constant false)) r)
  nodes_out [] cells h k r below e = absurd (omega arith)
  nodes_out (f ∷ fs) [] h k r below e = absurd (none-ne-some r e)
  nodes_out (f ∷ fs) (None ∷ cells) h zero r below e = absurd (none-ne-some r e)
  nodes_out (f ∷ fs) (None ∷ cells) h (suc k) r below e = nodes_out fs cells h k r (omega arith) e
  nodes_out (f ∷ fs) (Some q ∷ cells) h zero r below e =
      subst (λ z. Here (with_left f z)) (some-injective q r e) h.0
  nodes_out (f ∷ fs) (Some q ∷ cells) h (suc k) r below e = nodes_out fs cells h.1 k r (omega arith) e

  pub nodes_in : (fs : List Formula) (cells : Pending)
      → ((k : ℕ) (r : Tick) → k < length fs → get_or cells k None ≡ Some r → Here (with_left (get_or fs k (constant false)) r))
      → NodesNow fs cells
  nodes_in [] cells h = tt
  nodes_in (f ∷ fs) [] h = tt
  nodes_in (f ∷ fs) (None ∷ cells) h = nodes_in fs cells (λ k r below e. h (suc k) r (omega arith) e)
  nodes_in (f ∷ fs) (Some q ∷ cells) h =
      (h zero q (omega arith) refl, nodes_in fs cells (λ k r below e. h (suc k) r (omega arith) e))

  -- An `always` rule is kept now.
  abbrev pub RuleNow : Rule → Type 0
  RuleNow rule = rule.form ≡ everywhere → Here rule.formula

module _ (tower : Tower) (run : Trace) where
  -- A `start` rule is kept where the run begins.
  abbrev pub RuleStarts : Rule → Type 0
  RuleStarts rule = rule.form ≡ at_start → Kept tower run rule.formula (position 0)

  module _ (all : List Formula) where
    -- one rule as the run begins: it is kept at position 0 if it is a `start` rule
    adds_begin_rule : (form : Form) (f : Formula) (k : ℕ) (p : Pending) → Sits all f k → length p ≡ length all
        → Adds tower run all (Some (begin_rule form f k p)) p (form ≡ at_start → Kept tower run f (position 0))
    unfolding begin_rule
    adds_begin_rule everywhere f k p sits sized =
        adds_nothing tower run all p (everywhere ≡ at_start → Kept tower run f (position 0)) (λ e. absurd (start_not_everywhere (sym e)))
    adds_begin_rule at_start f k p sits sized =
        adds_iff tower run all (Some (put f k (fresh f) p)) p (Kept tower run (with_left f (fresh f)) (position 0))
        (at_start ≡ at_start → Kept tower run f (position 0)) (
          λ h e. subst (λ g. Kept tower run g (position 0)) (with_left_fresh f) h,
          λ h. subst (λ g. Kept tower run g (position 0)) (sym (with_left_fresh f)) (h refl),
        ) (adds_put tower run all f k (fresh f) p sits sized)

    -- What is pending as the run begins adds what the `start` rules ask.
    pub adds_begin : (rules : Book) (n : ℕ) (p : Pending) → Stand all n (nodes rules) → length p ≡ length all
        → Adds tower run all (Some (begin_rules rules n p)) p
        (Each rules RuleStarts)
    unfolding begin_rules nodes joined size bind
    adds_begin [] n p stand sized =
        adds_nothing tower run all p (Each [] RuleStarts)
        (λ rule listed. absurd (Memᴰ.not-nil listed))
    adds_begin (rule ∷ rules) n p stand sized =
        adds_iff tower run all (Some (begin_rules (rule ∷ rules) n p)) p
        (RuleStarts rule × Each rules RuleStarts)
        (Each (rule ∷ rules) RuleStarts)
        (Iff.symm (each_cons rule rules RuleStarts))
        (adds_both tower run all (Some (begin_rule rule.form rule.formula (root n rule.formula) p))
        (λ q. Some (begin_rules rules (n + size rule.formula) q)) p
        (RuleStarts rule)
        (Each rules RuleStarts)
        (adds_begin_rule rule.form rule.formula (root n rule.formula) p
        (sits_root all rule.formula n (stand_left all n (parts rule.formula) (nodes rules) stand)) sized)
        (λ q same. adds_begin rules (n + size rule.formula) q
        (stand_right all n (parts rule.formula) (nodes rules) stand) (same ∙ sized)))

module _ (tower : Tower) (book : Book) where
  -- at the end of a run everything is met
  pub meets_end : (x : ℕ) (p : Pending) → Fulfils tower book x p []
  unfolding trace_from Kept Judged
  meets_end x p =
      record { pending = λ k r below e judged. absurd (omega arith); rules = λ rule listed e. rule_end tower everywhere rule.formula }

  -- nothing pending asks nothing
  pub none_asks : (run : Trace) → Sat tower run (nodes book) (none_pending book)
  unfolding none_pending
  none_asks run k r below e =
      absurd (none-ne-some r (sym (get_or-replicate {A = Option Tick} (length (nodes book)) k None None below) ∙ e))

  pub none_sized : length (none_pending book) ≡ length (nodes book)
  unfolding none_pending
  none_sized = length-replicate {A = Option Tick} (length (nodes book)) None

  -- the nodes of the book stand from number 0 on
  pub book_stands : Stand (nodes book) 0 (nodes book)
  book_stands = record { behind = []; here = sym (append-nil (nodes book)) }

  -- What is pending at first adds to nothing exactly what the `start` rules ask.
  pub first_adds : (run : Trace) → Adds tower run (nodes book) (Some (first_pending book)) (none_pending book)
      (Each book (RuleStarts tower run))
  unfolding first_pending
  first_adds run = adds_begin tower run (nodes book) book 0 (none_pending book) book_stands none_sized

  -- What is asked where moment m leaves its state with p pending.
  abbrev pub Asked : Moment → Trace → Pending → Type 0
  Asked m run p = NodesNow tower m run (nodes book) p × Each book (RuleNow tower m run)

  -- What the `always` rules ask of the rest of a run.
  abbrev pub AskedLater : Trace → Type 0
  AskedLater run = Each book (λ rule. rule.form ≡ everywhere → KeptRule tower run everywhere rule.formula)

  -- one step of a run: action a at state x with p pending leads to state y, and u is the rest of the run
  module _ (x a y : ℕ) (p : Pending) (u : List ℕ) (enabled : tower.target x a ≡ Some y) where
    abbrev here : Moment
    here = record { state = x; action = a }

    abbrev rest : Trace
    rest = trace_from tower y u

    trace_step : trace_from tower x (a ∷ u) ≡ here ∷ rest
    unfolding trace_from
    trace_step = rw enabled

    -- A run meets what is pending exactly if it meets what is asked now, and the `always` rules later.
    pub meets_now : Fulfils tower book x p (a ∷ u) ↔ (Asked here rest p × AskedLater rest)
    meets_now = (out, into)
      where
        out : Fulfils tower book x p (a ∷ u) → Asked here rest p × AskedLater rest
        out h = (
          (
            nodes_in tower here rest (nodes book) p
                (λ k r below e. (kept_now tower here rest _).0 (rw trace_step at (h.pending k r below e))),
            λ rule listed e. ((rule_step tower here rest rule.formula).0 (rw trace_step at (h.rules rule listed e))).0,
          ),
          λ rule listed e. ((rule_step tower here rest rule.formula).0 (rw trace_step at (h.rules rule listed e))).1,
        )

        into : Asked here rest p × AskedLater rest → Fulfils tower book x p (a ∷ u)
        into h =
            record {
              pending = λ k r below e. rw trace_step ((kept_now tower here rest _).1
                  (nodes_out tower here rest (nodes book) p h.0.0 k r below e));
              rules = λ rule listed e. rw trace_step ((rule_step tower here rest rule.formula).1
                  (h.0.1 rule listed e, h.1 rule listed e));
            }

  -- A run is unbroken exactly if it meets what is pending at first.
  pub unbroken_meets : (w : List ℕ) → Unbroken tower book w ↔ Fulfils tower book tower.start (first_pending book) w
  unfolding Unbroken trace KeptRule
  unbroken_meets w = (out, into)
    where
      run : Trace
      run = trace_from tower tower.start w

      out : Unbroken tower book w → Fulfils tower book tower.start (first_pending book) w
      out h =
          record {
            pending = (first_adds run).1.1 (
              none_asks run,
              λ rule listed e. subst (λ form. KeptRule tower run form rule.formula) e (h rule listed),
            );
            rules = λ rule listed e. subst (λ form. KeptRule tower run form rule.formula) e (h rule listed);
          }

      into : Fulfils tower book tower.start (first_pending book) w → Unbroken tower book w
      into h rule listed = go rule.form refl
        where
          go : (form : Form) → rule.form ≡ form → KeptRule tower run form rule.formula
          go everywhere e = h.rules rule listed e
          go at_start e = ((first_adds run).1.0 h.pending).1 rule listed e
