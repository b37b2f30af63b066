-- 02, item 3: the progression of a set of alternatives. A node and a rule give a set of their own; 'Within each old alternative they are
-- combined operand before parent, then pending nodes by number, then lines; the results are joined in the old ones' order'.
use Rattle.std.specs.Prelude.{ℕ, suc, ◌+◌, Bool, ◌&&◌, List, [], ◌∷◌, length, set, replicate}
use Rattle.std.specs.Prelude.{None, Some}
use Rattle.base.specs.Choice.{pick}
use Rattle.logic.specs.Time.{minus, at_most}
use Rattle.logic.specs.Tower.{Tower}
use Rattle.logic.specs.Book.{Formula, constant, proposition, and, or, next, always_for, until, compares, timed, size, nodes, first_part, second_part, root, Form, at_start, everywhere, Book}
use Rattle.logic.specs.declared.Tick.{Tick}
use Rattle.pending.specs.Pending.{Pending, holds, fresh, first_pending}
use Rattle.alternatives.specs.Alternatives.{Alternatives, these, broken, combined, joined_with}

-- the one alternative in which nothing is pending; fs are the nodes
unfoldable pub nothing_pending : List Formula → Alternatives
nothing_pending fs = these (replicate (length fs) None ∷ [])

-- the one alternative in which node k alone is pending, with r ticks
unfoldable pub alone_pending : List Formula → ℕ → Tick → Alternatives
alone_pending fs k r = these (set (replicate (length fs) None) k (Some r) ∷ [])

-- goes on if the test holds, and else the step is broken
unfoldable pub if_so : Bool → Alternatives → Alternatives
if_so b s = pick b (λ _. s) (λ _. broken)

-- Node k, the formula f with r ticks left, as state x is left by an action of length d: the alternatives that come of it. Both sides of `&`
-- and both timed sides of `|` are looked at, even where one has broken; not so the timed side of `|` where its untimed side holds, nor the first
-- part of U where U ends or breaks.
unfoldable pub alternatives_of : Tower → List Formula → ℕ → Tick → Formula → ℕ → Tick → Alternatives
alternatives_of tower fs x d (constant b) k r = if_so (holds tower x (constant b)) (nothing_pending fs)
alternatives_of tower fs x d (proposition w m) k r = if_so (holds tower x (proposition w m)) (nothing_pending fs)
alternatives_of tower fs x d (and f g) k r =
    combined fs (alternatives_of tower fs x d f (first_part k g) (fresh f)) (alternatives_of tower fs x d g (second_part k) (fresh g))
alternatives_of tower fs x d (or f g) k r =
    pick (timed f && timed g)
    (λ _. joined_with fs (alternatives_of tower fs x d f (first_part k g) (fresh f)) (alternatives_of tower fs x d g (second_part k) (fresh g)))
    (λ _. pick (timed f)
    (λ _. pick (holds tower x g) (λ _. nothing_pending fs) (λ _. alternatives_of tower fs x d f (first_part k g) (fresh f)))
    (λ _. pick (holds tower x f) (λ _. nothing_pending fs) (λ _. alternatives_of tower fs x d g (second_part k) (fresh g))))
alternatives_of tower fs x d (next c t g) k r = if_so (compares c d t) (alone_pending fs (second_part k) (fresh g))
alternatives_of tower fs x d (always_for t g) k r =
    pick (at_most d r)
    (λ _. combined fs (alternatives_of tower fs x d g (second_part k) (fresh g)) (alone_pending fs k (minus r d)))
    (λ _. alternatives_of tower fs x d g (second_part k) (fresh g))
alternatives_of tower fs x d (until t f g) k r =
    pick (holds tower x g) (λ _. nothing_pending fs) (λ _.
    if_so (at_most d r) (combined fs (alternatives_of tower fs x d f (first_part k g) (fresh f)) (alone_pending fs k (minus r d))))

-- every pending node in turn, combined with what stands so far; gs are the nodes from number k on, and cells what is pending of them
unfoldable pub combined_nodes : Tower → List Formula → ℕ → Tick → List Formula → ℕ → Pending → Alternatives → Alternatives
combined_nodes tower fs x d [] k cells s = s
combined_nodes tower fs x d (g ∷ gs) k [] s = s
combined_nodes tower fs x d (g ∷ gs) k (None ∷ cells) s = combined_nodes tower fs x d gs (suc k) cells s
combined_nodes tower fs x d (g ∷ gs) k (Some r ∷ cells) s =
    combined_nodes tower fs x d gs (suc k) cells (combined fs s (alternatives_of tower fs x d g k r))

-- one rule: an `always` formula is combined with what stands so far
unfoldable pub combined_rule : Tower → List Formula → ℕ → Tick → Form → Formula → ℕ → Alternatives → Alternatives
combined_rule tower fs x d everywhere f k s = combined fs s (alternatives_of tower fs x d f k (fresh f))
combined_rule tower fs x d at_start f k s = s

-- every rule in turn; the nodes of the first begin with number n
unfoldable pub combined_rules : Tower → List Formula → ℕ → Tick → Book → ℕ → Alternatives → Alternatives
combined_rules tower fs x d [] n s = s
combined_rules tower fs x d (rule ∷ rules) n s =
    combined_rules tower fs x d rules (n + size rule.formula)
    (combined_rule tower fs x d rule.form rule.formula (root n rule.formula) s)

-- what comes of one old alternative: from nothing, its pending nodes by number, then the lines
unfoldable pub alternatives_behind : Tower → Book → ℕ → Tick → Pending → Alternatives
alternatives_behind tower book x d p =
    combined_rules tower (nodes book) x d book 0
    (combined_nodes tower (nodes book) x d (nodes book) 0 p (nothing_pending (nodes book)))

-- what comes of the old alternatives in turn, joined with what stands so far
unfoldable pub joined_behind : Tower → Book → ℕ → Tick → List Pending → Alternatives → Alternatives
joined_behind tower book x d [] s = s
joined_behind tower book x d (p ∷ ps) s = joined_behind tower book x d ps (joined_with (nodes book) s (alternatives_behind tower book x d p))

-- Leaving state x by an action of length d: the alternatives that come of the old ones, in their order. A step is broken when none is left.
unfoldable pub progressed_set : Tower → Book → ℕ → Tick → List Pending → Alternatives
progressed_set tower book x d ps = joined_behind tower book x d ps broken

-- At first there is one alternative: every `start` formula is pending as it stands.
unfoldable pub first_set : Book → List Pending
first_set book = first_pending book ∷ []
