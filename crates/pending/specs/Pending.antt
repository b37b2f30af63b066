-- 01, 'What is pending': obligations and their progression, by the equivalences E4, E5 and E7 of document 004 with whole ticks. By 02, item 3,
-- what is pending is a set of them, and the progression of sets (crate `alternatives`) is the one that the outcomes are defined with. The
-- progression here is that of one alternative: of a book without two timed sides the sets have one alternative each, and it progresses so
-- (`alternatives/proofs/OneAlternative.antt`). For such books the code goes this way, which is faster (crate `book_progression`).
use Rattle.std.specs.Prelude.{ℕ, suc, ◌+◌, Bool, false, ◌&&◌, ◌||◌, List, [], ◌∷◌, length, get_or, set, replicate}
use Rattle.std.specs.Bool.{beq}
use Rattle.std.specs.Prelude.{Option, None, Some}
use Rattle.base.specs.Options.{bind}
use Rattle.base.specs.Choice.{pick}
use Rattle.base.specs.Lists.{same_option, same_list}
use Rattle.logic.specs.Time.{ticks, minus, at_most, same_ticks, longer, shorter}
use Rattle.logic.specs.Tower.{Tower}
use Rattle.logic.specs.Book.{Formula, constant, proposition, and, or, next, always_for, until, compares, timed, size, nodes, first_part, second_part, Form, at_start, everywhere, Book}
use Rattle.logic.specs.declared.Tick.{Tick}
unfoldable pub use Rattle.logic.specs.Book.{root}

-- Pending is, for each node, nothing or a number of ticks left: the obligation that the rest of the run has to meet.
abbrev pub Pending : Type 0
Pending = List (Option Tick)

-- one and the same obligation
unfoldable pub same_pending : Pending → Pending → Bool
same_pending p q = same_list (same_option same_ticks) p q

-- an untimed formula holds at state x; it is never asked of a timed one
unfoldable pub holds : Tower → ℕ → Formula → Bool
holds tower x (constant b) = b
holds tower x (proposition wanted k) = beq (tower.marked x k) wanted
holds tower x (and f g) = holds tower x f && holds tower x g
holds tower x (or f g) = holds tower x f || holds tower x g
holds tower x (next c t g) = false
holds tower x (always_for t g) = false
holds tower x (until t f g) = false

-- A new node starts with its bound (0 if it has none).
unfoldable pub fresh : Formula → Tick
fresh (constant b) = ticks 0
fresh (proposition w k) = ticks 0
fresh (and f g) = ticks 0
fresh (or f g) = ticks 0
fresh (next c t g) = t
fresh (always_for t g) = t
fresh (until t f g) = t

-- Where a node comes up twice, A keeps the larger number, U the smaller. No other node has two numbers.
unfoldable pub merge : Formula → Tick → Tick → Tick
merge (constant b) r q = r
merge (proposition w k) r q = r
merge (and f g) r q = r
merge (or f g) r q = r
merge (next c t g) r q = r
merge (always_for t g) r q = longer r q
merge (until t f g) r q = shorter r q

-- the number of a node that comes up with r ticks
unfoldable pub coming : Formula → Tick → Option Tick → Tick
coming f r None = r
coming f r (Some q) = merge f r q

-- node k, the formula f, becomes pending with r ticks
unfoldable pub put : Formula → ℕ → Tick → Pending → Pending
put f k r p = set p k (Some (coming f r (get_or p k None)))

-- goes on if the test holds, and else the step is broken
unfoldable pub provided : Bool → Option Pending → Option Pending
provided b o = pick b (λ _. o) (λ _. None)

-- Progression by example: the small tower under `always !p0 | E 3 p1`, whose node 3 is the until. Mark p0 is on state 0, p1 on state 1, p2 on
-- state 2, and every action takes one tick.
--   state 0 is left towards state 2: `!p0` does not hold there, so the until comes up with its bound 3; p1 is not there, and one tick passes:
--   node 3 is pending with 2
--   state 2 is left towards state 0: p1 is not there: node 3 stays with 1; the rule adds nothing, since `!p0` holds
--   state 0 is left towards state 2 again: node 3 would stay with 0, and the rule brings it up with 2 anew; an until keeps the smaller: 0
--   state 2 is left: p1 is not there, and one tick is more than 0: the step is broken

-- Node k, the formula f with r ticks left, as state x is left by an action of length d: what is added to the pending p, or nothing if the
-- step is broken. Of a `|` with two timed sides it is never asked.
unfoldable pub progress : Tower → ℕ → Tick → Formula → ℕ → Tick → Pending → Option Pending
progress tower x d (constant b) k r p = provided (holds tower x (constant b)) (Some p)
progress tower x d (proposition w m) k r p = provided (holds tower x (proposition w m)) (Some p)
progress tower x d (and f g) k r p =
    bind (progress tower x d f (first_part k g) (fresh f) p) (λ q. progress tower x d g (second_part k) (fresh g) q)
progress tower x d (or f g) k r p =
    pick (timed f)
    (λ _. pick (holds tower x g) (λ _. Some p) (λ _. progress tower x d f (first_part k g) (fresh f) p))
    (λ _. pick (holds tower x f) (λ _. Some p) (λ _. progress tower x d g (second_part k) (fresh g) p))
progress tower x d (next c t g) k r p = provided (compares c d t) (Some (put g (second_part k) (fresh g) p))
progress tower x d (always_for t g) k r p =
    bind (progress tower x d g (second_part k) (fresh g) p)
    (λ q. Some (pick (at_most d r) (λ _. put (always_for t g) k (minus r d) q) (λ _. q)))
progress tower x d (until t f g) k r p =
    pick (holds tower x g) (λ _. Some p) (λ _.
    provided (at_most d r)
    (bind (progress tower x d f (first_part k g) (fresh f) p) (λ q. Some (put (until t f g) k (minus r d) q))))

-- every pending node in turn; fs are the nodes from number k on, and cells what is pending of them
unfoldable pub progress_nodes : Tower → ℕ → Tick → List Formula → ℕ → Pending → Pending → Option Pending
progress_nodes tower x d [] k cells p = Some p
progress_nodes tower x d (f ∷ fs) k [] p = Some p
progress_nodes tower x d (f ∷ fs) k (None ∷ cells) p = progress_nodes tower x d fs (suc k) cells p
progress_nodes tower x d (f ∷ fs) k (Some r ∷ cells) p =
    bind (progress tower x d f k r p) (λ q. progress_nodes tower x d fs (suc k) cells q)

-- one rule as a state is left: an `always` formula progresses
unfoldable pub progress_rule : Tower → ℕ → Tick → Form → Formula → ℕ → Pending → Option Pending
progress_rule tower x d everywhere f k p = progress tower x d f k (fresh f) p
progress_rule tower x d at_start f k p = Some p

-- every rule in turn; the nodes of the first begin with number n
unfoldable pub progress_rules : Tower → ℕ → Tick → Book → ℕ → Pending → Option Pending
progress_rules tower x d [] n p = Some p
progress_rules tower x d (rule ∷ rules) n p =
    bind (progress_rule tower x d rule.form rule.formula (root n rule.formula) p)
    (λ q. progress_rules tower x d rules (n + size rule.formula) q)

-- nothing is pending
unfoldable pub none_pending : Book → Pending
none_pending book = replicate (length (nodes book)) None

-- Leaving state x by an action of length d progresses every pending node and every `always` formula: what is pending next, or nothing if the
-- step is broken.
unfoldable pub progressed : Tower → Book → ℕ → Tick → Pending → Option Pending
progressed tower book x d p =
    bind (progress_nodes tower x d (nodes book) 0 p (none_pending book)) (λ q. progress_rules tower x d book 0 q)

-- a rule as the run begins: a `start` formula is pending
unfoldable pub begin_rule : Form → Formula → ℕ → Pending → Pending
begin_rule everywhere f k p = p
begin_rule at_start f k p = put f k (fresh f) p

unfoldable pub begin_rules : Book → ℕ → Pending → Pending
begin_rules [] n p = p
begin_rules (rule ∷ rules) n p =
    begin_rules rules (n + size rule.formula) (begin_rule rule.form rule.formula (root n rule.formula) p)

-- At first the `start` formulas are pending.
unfoldable pub first_pending : Book → Pending
first_pending book = begin_rules book 0 (none_pending book)
