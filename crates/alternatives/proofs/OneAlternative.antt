-- Where no `|` has two timed sides, every set has one alternative, and a step of it is the step of that one: a broken step leaves none.
use Prim.Native.Nat.{ℕ, suc, ◌+◌}
use mathlib.Core.Path.{◌≡◌, refl, sym, ◌∙◌, ap}
use mathlib.Core.Bool.{Bool, true, false, ◌&&◌, not, and-eq-true_iff}
use Rattle.std.specs.Prelude.{Option, None, Some, option_map}
use Rattle.base.specs.Options.{bind}
use mathlib.Core.List.Memᴰ
use mathlib.Core.List.{List, [], ◌∷◌}
use lib.ListN.{length}
use borrow.Author.Tests.{not-true}
use Rattle.base.specs.Choice.{pick}
use Rattle.base.specs.Lists.{some_of, joined}
use Rattle.base.proofs.Lists.{and_left, and_right}
use Rattle.logic.specs.Time.{minus, at_most}
use Rattle.logic.specs.Tower.{Tower}
use Rattle.logic.specs.Book.{Formula, constant, proposition, and, or, next, always_for, until, compares, timed, parts, size, nodes, first_part, second_part, root, Form, at_start, everywhere, Book}
use Rattle.logic.specs.Sides.{one_sided, OneSided}
use Rattle.logic.specs.declared.Tick.{Tick}
use Rattle.pending.specs.Pending.{Pending, holds, fresh, put, provided, progress, progress_nodes, progress_rule, progress_rules, none_pending, progressed}
use Rattle.pending.proofs.Nodes.{Stand, stand_left, stand_right, Sits, sits_first, sits_second, sits_only, sits_root, Inherited, AllSit, book_sits}
use Rattle.pending.proofs.Asked.{book_stands}
use Rattle.alternatives.specs.Least.{without, placed, with_one_more, with_more, least}
use Rattle.alternatives.specs.Alternatives.{Alternatives, these, broken, set_of, both, together, most_alternatives, counted, combined, joined_with}
use Rattle.alternatives.specs.Progression.{nothing_pending, alone_pending, if_so, alternatives_of, combined_nodes, combined_rule, combined_rules, alternatives_behind, joined_behind, progressed_set}
use Rattle.alternatives.specs.OneAlternative.{single}
use Rattle.alternatives.proofs.Behind.{blank, blank_sized, Sized, Behind, behind_sized, put_alone, behind_put, behind_progress, behind_nodes, behind_rule}

-- No `|` of the formula has two timed sides; so it is with its parts.
abbrev Sided : Formula → Type 0
Sided f = one_sided f ≡ true

sided_inherited : Inherited Sided
unfolding one_sided
sided_inherited =
    record {
      and_parts = λ f g h. (and-eq-true_iff (one_sided f) (one_sided g)).0 h;
      or_parts = λ f g h. (and-eq-true_iff (one_sided f) (one_sided g)).0
          ((and-eq-true_iff (not (timed f && timed g)) (one_sided f && one_sided g)).0 h).1;
      next_part = λ c t g h. h;
      always_part = λ t g h. h;
      until_parts = λ t f g h. (and-eq-true_iff (one_sided f) (one_sided g)).0 h;
    }

-- ---- one step after another

-- nothing more comes
bind_some : (o : Option Pending) → bind o (λ p. Some p) ≡ o
unfolding bind
bind_some None = refl
bind_some (Some p) = refl

-- one step and then the others
bind_bind : (o : Option Pending) (F G : Pending → Option Pending) → bind (bind o F) G ≡ bind o (λ p. bind (F p) G)
unfolding bind
bind_bind None F G = refl
bind_bind (Some p) F G = refl

-- ---- sets of one

-- Sets of one combine to both of the two.
pub combined_single : (fs : List Formula) (o u : Option Pending)
    → combined fs (single o) (single u) ≡ single (bind o (λ p. option_map (both fs p) u))
unfolding combined single together set_of least with_more with_one_more placed without some_of counted most_alternatives bind
combined_single fs None None = refl
combined_single fs None (Some q) = refl
combined_single fs (Some p) None = refl
combined_single fs (Some p) (Some q) = refl

-- A set of one is joined with none.
pub joined_single : (fs : List Formula) (o : Option Pending) → joined_with fs broken (single o) ≡ single o
unfolding joined_with single set_of least with_more with_one_more placed without some_of counted most_alternatives
joined_single fs None = refl
joined_single fs (Some p) = refl

-- one choice of two sets
pick_single : (b : Bool) (s t : Alternatives) (o u : Option Pending) → s ≡ single o → t ≡ single u
    → pick b (λ _. s) (λ _. t) ≡ single (pick b (λ _. o) (λ _. u))
pick_single true s t o u one other = one
pick_single false s t o u one other = other

-- a test that has to hold
if_single : (b : Bool) (s : Alternatives) (o : Option Pending) → s ≡ single o → if_so b s ≡ single (provided b o)
unfolding if_so provided single
if_single b s o one = pick_single b s broken o None one refl

module _ (all : List Formula) where
  -- the set t is what F gives from nothing
  abbrev Gives : (Pending → Option Pending) → Alternatives → Type 0
  Gives F t = t ≡ single (F (blank all))

  -- What stands so far, combined with what a step gives from nothing, is that step behind it.
  pub combined_step : (o : Option Pending) (F : Pending → Option Pending) (t : Alternatives) → Sized all o → Behind all F
      → t ≡ single (F (blank all)) → combined all (single o) t ≡ single (bind o F)
  unfolding bind
  combined_step o F t sized adds gives = ap (combined all (single o)) gives ∙ combined_single all o (F (blank all)) ∙ ap single (go o sized)
    where
      go : (z : Option Pending) → Sized all z → bind z (λ p. option_map (both all p) (F (blank all))) ≡ bind z F
      go None keeps = refl
      go (Some p) keeps = sym (adds p keeps)

  -- a step behind what stands so far keeps a cell for each node
  bind_sized : (o : Option Pending) (F : Pending → Option Pending) → Sized all o → Behind all F → Sized all (bind o F)
  unfolding bind
  bind_sized None F sized adds = tt
  bind_sized (Some p) F sized adds = behind_sized all F adds p sized

  -- one step after another, from nothing
  combined_two : (F G : Pending → Option Pending) (s t : Alternatives) → Behind all F → Behind all G → Gives F s → Gives G t
      → combined all s t ≡ single (bind (F (blank all)) G)
  combined_two F G s t first second one other =
      ap (λ z. combined all z t) one
      ∙ combined_step (F (blank all)) G t (behind_sized all F first (blank all) (blank_sized all)) second other

  -- nothing, and one node alone
  gives_nothing : Gives (λ p. Some p) (nothing_pending all)
  unfolding nothing_pending single
  gives_nothing = refl

  gives_alone : (f : Formula) (k : ℕ) (r : Tick) → Sits all f k → Gives (λ p. Some (put f k r p)) (alone_pending all k r)
  unfolding alone_pending single
  gives_alone f k r sits = ap (λ p. these (p ∷ [])) (sym (put_alone all f k r sits))

  module _ (tower : Tower) (x : ℕ) (d : Tick) where
    -- what comes of a node, by the new progression and by the old
    abbrev new : Formula → ℕ → Tick → Alternatives
    new f k r = alternatives_of tower all x d f k r

    abbrev old : Formula → ℕ → Tick → Pending → Option Pending
    old f k r = progress tower x d f k r

    -- what is to be shown of a formula
    abbrev One : Formula → Type 0
    One f = (k : ℕ) (r : Tick) → Sits all f k → one_sided f ≡ true → Gives (old f k r) (new f k r)

    one_and : (f g : Formula) → One f → One g → One (and f g)
    unfolding alternatives_of progress one_sided parts
    one_and f g left right k r sits one =
        let first = sits_first all (and f g) k sits f g refl in
        let second = sits_second all (and f g) k sits f g refl in
        combined_two (old f (first_part k g) (fresh f)) (old g (second_part k) (fresh g)) (new f (first_part k g) (fresh f))
        (new g (second_part k) (fresh g)) (behind_progress all tower x d f (first_part k g) (fresh f) first)
        (behind_progress all tower x d g (second_part k) (fresh g) second)
        (left (first_part k g) (fresh f) first (and_left (one_sided f) (one_sided g) one))
        (right (second_part k) (fresh g) second (and_right (one_sided f) (one_sided g) one))

    one_or : (f g : Formula) → One f → One g → One (or f g)
    unfolding alternatives_of progress one_sided parts
    one_or f g left right k r sits one =
        let sides = and_left (not (timed f && timed g)) (one_sided f && one_sided g) one in
        let both = and_right (not (timed f && timed g)) (one_sided f && one_sided g) one in
        let first = left (first_part k g) (fresh f) (sits_first all (or f g) k sits f g refl) (and_left (one_sided f) (one_sided g) both) in
        let second = right (second_part k) (fresh g) (sits_second all (or f g) k sits f g refl) (and_right (one_sided f) (one_sided g) both) in
        go (timed f && timed g) (not-true (timed f && timed g) sides)
        ∙ pick_single (timed f) (pick (holds tower x g) (λ _. nothing_pending all) (λ _. s)) (pick (holds tower x f) (λ _. nothing_pending all) (λ _. t))
        (pick (holds tower x g) (λ _. Some (blank all)) (λ _. o)) (pick (holds tower x f) (λ _. Some (blank all)) (λ _. u))
        (pick_single (holds tower x g) (nothing_pending all) s (Some (blank all)) o gives_nothing first)
        (pick_single (holds tower x f) (nothing_pending all) t (Some (blank all)) u gives_nothing second)
      where
        s : Alternatives
        s = new f (first_part k g) (fresh f)

        t : Alternatives
        t = new g (second_part k) (fresh g)

        o : Option Pending
        o = old f (first_part k g) (fresh f) (blank all)

        u : Option Pending
        u = old g (second_part k) (fresh g) (blank all)

        either : Alternatives
        either =
            pick (timed f) (λ _. pick (holds tower x g) (λ _. nothing_pending all) (λ _. s))
            (λ _. pick (holds tower x f) (λ _. nothing_pending all) (λ _. t))

        go : (b : Bool) → b ≡ false → pick b (λ _. joined_with all s t) (λ _. either) ≡ either
        go b e = rw e refl

    one_always : (t : Tick) (g : Formula) → One g → One (always_for t g)
    unfolding alternatives_of progress one_sided parts
    one_always t g part k r sits one = go (at_most d r)
      where
        only : Sits all g (second_part k)
        only = sits_only all (always_for t g) k sits g refl

        s : Alternatives
        s = new g (second_part k) (fresh g)

        first : Gives (old g (second_part k) (fresh g)) s
        first = part (second_part k) (fresh g) only one

        go : (b : Bool) → pick b (λ _. combined all s (alone_pending all k (minus r d))) (λ _. s)
            ≡ single (bind (old g (second_part k) (fresh g) (blank all))
            (λ q. Some (pick b (λ _. put (always_for t g) k (minus r d) q) (λ _. q))))
        go true =
            combined_two (old g (second_part k) (fresh g)) (λ q. Some (put (always_for t g) k (minus r d) q)) s (alone_pending all k (minus r d))
            (behind_progress all tower x d g (second_part k) (fresh g) only) (behind_put all (always_for t g) k (minus r d) sits)
            first (gives_alone (always_for t g) k (minus r d) sits)
        go false = first ∙ ap single (sym (bind_some (old g (second_part k) (fresh g) (blank all))))

    one_until : (t : Tick) (f g : Formula) → One f → One (until t f g)
    unfolding alternatives_of progress one_sided parts
    one_until t f g part k r sits one =
        let first = sits_first all (until t f g) k sits f g refl in
        pick_single (holds tower x g) (nothing_pending all) (if_so (at_most d r) (combined all s (alone_pending all k (minus r d))))
        (Some (blank all)) (provided (at_most d r) (bind (old f (first_part k g) (fresh f) (blank all)) on)) gives_nothing
        (if_single (at_most d r) (combined all s (alone_pending all k (minus r d))) (bind (old f (first_part k g) (fresh f) (blank all)) on)
        (combined_two (old f (first_part k g) (fresh f)) on s (alone_pending all k (minus r d))
        (behind_progress all tower x d f (first_part k g) (fresh f) first)
        (behind_put all (until t f g) k (minus r d) sits)
        (part (first_part k g) (fresh f) first (and_left (one_sided f) (one_sided g) one))
        (gives_alone (until t f g) k (minus r d) sits)))
      where
        s : Alternatives
        s = new f (first_part k g) (fresh f)

        on : Pending → Option Pending
        on q = Some (put (until t f g) k (minus r d) q)

    -- What comes of a one_sided node is one alternative: its progression from nothing.
    pub one_alternative : (f : Formula) (k : ℕ) (r : Tick) → Sits all f k → one_sided f ≡ true
        → alternatives_of tower all x d f k r ≡ single (progress tower x d f k r (blank all))
    unfolding alternatives_of progress parts
    one_alternative (constant b) k r sits one = if_single (holds tower x (constant b)) (nothing_pending all) (Some (blank all)) gives_nothing
    one_alternative (proposition w m) k r sits one =
        if_single (holds tower x (proposition w m)) (nothing_pending all) (Some (blank all)) gives_nothing
    one_alternative (and f g) k r sits one = one_and f g (one_alternative f) (one_alternative g) k r sits one
    one_alternative (or f g) k r sits one = one_or f g (one_alternative f) (one_alternative g) k r sits one
    one_alternative (next c t g) k r sits one =
        if_single (compares c d t) (alone_pending all (second_part k) (fresh g)) (Some (put g (second_part k) (fresh g) (blank all)))
        (gives_alone g (second_part k) (fresh g) (sits_only all (next c t g) k sits g refl))
    one_alternative (always_for t g) k r sits one = one_always t g (one_alternative g) k r sits one
    one_alternative (until t f g) k r sits one = one_until t f g (one_alternative f) k r sits one

    -- Behind one alternative it is the progression behind that.
    pub combined_one : (f : Formula) (k : ℕ) (r : Tick) (p : Pending) → Sits all f k → one_sided f ≡ true → length p ≡ length all
        → combined all (these (p ∷ [])) (alternatives_of tower all x d f k r) ≡ single (progress tower x d f k r p)
    unfolding single bind
    combined_one f k r p sits one sized =
        combined_step (Some p) (progress tower x d f k r) (alternatives_of tower all x d f k r) sized (behind_progress all tower x d f k r sits)
        (one_alternative f k r sits one)

    -- ---- nodes and rules in turn

    -- Every pending node in turn, behind what stands so far.
    pub nodes_one : (gs : List Formula) (k : ℕ) (cells : Pending) (o : Option Pending) → AllSit Sided all gs k → Sized all o
        → combined_nodes tower all x d gs k cells (single o) ≡ single (bind o (progress_nodes tower x d gs k cells))
    unfolding combined_nodes progress_nodes
    nodes_one [] k cells o sit sized = ap single (sym (bind_some o))
    nodes_one (g ∷ gs) k [] o sit sized = ap single (sym (bind_some o))
    nodes_one (g ∷ gs) k (None ∷ cells) o sit sized = nodes_one gs (suc k) cells o sit.1 sized
    nodes_one (g ∷ gs) k (Some r ∷ cells) o sit sized =
        ap (combined_nodes tower all x d gs (suc k) cells) (combined_step o (old g k r) (new g k r) sized
        (behind_progress all tower x d g k r sit.0.0) (one_alternative g k r sit.0.0 sit.0.1))
        ∙ nodes_one gs (suc k) cells (bind o (old g k r)) sit.1
        (bind_sized o (old g k r) sized (behind_progress all tower x d g k r sit.0.0))
        ∙ ap single (bind_bind o (old g k r) (progress_nodes tower x d gs (suc k) cells))

    -- One rule, behind what stands so far,
    pub rule_one : (form : Form) (f : Formula) (k : ℕ) (o : Option Pending) → Sits all f k → one_sided f ≡ true → Sized all o
        → combined_rule tower all x d form f k (single o) ≡ single (bind o (progress_rule tower x d form f k))
    unfolding combined_rule progress_rule
    rule_one everywhere f k o sits one sized =
        combined_step o (old f k (fresh f)) (new f k (fresh f)) sized (behind_progress all tower x d f k (fresh f) sits)
        (one_alternative f k (fresh f) sits one)
    rule_one at_start f k o sits one sized = ap single (sym (bind_some o))

    -- and every rule in turn.
    pub rules_one : (rules : Book) (n : ℕ) (o : Option Pending) → Stand all n (nodes rules) → OneSided rules → Sized all o
        → combined_rules tower all x d rules n (single o) ≡ single (bind o (progress_rules tower x d rules n))
    unfolding combined_rules progress_rules nodes joined size OneSided
    rules_one [] n o stand one sized = ap single (sym (bind_some o))
    rules_one (rule ∷ rules) n o stand one sized =
        let sits = sits_root all rule.formula n (stand_left all n (parts rule.formula) (nodes rules) stand) in
        let step : Pending → Option Pending = progress_rule tower x d rule.form rule.formula (root n rule.formula) in
        ap (combined_rules tower all x d rules (n + size rule.formula))
        (rule_one rule.form rule.formula (root n rule.formula) o sits (one rule (Memᴰ.head refl)) sized)
        ∙ rules_one rules (n + size rule.formula) (bind o step) (stand_right all n (parts rule.formula) (nodes rules) stand)
        (λ other listed. one other (Memᴰ.tail listed))
        (bind_sized o step sized (behind_rule all tower x d rule.form rule.formula (root n rule.formula) sits))
        ∙ ap single (bind_bind o step (progress_rules tower x d rules (n + size rule.formula)))

-- ---- a whole step

module _ (tower : Tower) (book : Book) (x : ℕ) (d : Tick) (p : Pending) (one : OneSided book) where
  -- What comes of one old alternative is what the step of it leaves.
  pub behind_one : alternatives_behind tower book x d p ≡ single (progressed tower book x d p)
  unfolding alternatives_behind progressed none_pending bind OneSided
  behind_one =
      ap (combined_rules tower (nodes book) x d book 0)
      (ap (combined_nodes tower (nodes book) x d (nodes book) 0 p) (gives_nothing (nodes book))
      ∙ nodes_one (nodes book) tower x d (nodes book) 0 p (Some (blank (nodes book))) sit (blank_sized (nodes book)))
      ∙ rules_one (nodes book) tower x d book 0 (progress_nodes tower x d (nodes book) 0 p (blank (nodes book))) (book_stands tower book) one
      (behind_sized (nodes book) (progress_nodes tower x d (nodes book) 0 p)
      (behind_nodes (nodes book) tower x d Sided (nodes book) 0 p sit) (blank (nodes book)) (blank_sized (nodes book)))
    where
      sit : AllSit Sided (nodes book) (nodes book) 0
      sit = book_sits Sided sided_inherited book one

  -- So a step of a set of one is the step of its alternative.
  pub progressed_one : progressed_set tower book x d (p ∷ []) ≡ single (progressed tower book x d p)
  unfolding progressed_set joined_behind
  progressed_one = ap (joined_with (nodes book) broken) behind_one ∙ joined_single (nodes book) (progressed tower book x d p)
