-- 02, item 3: 'What is pending becomes a set of alternatives, each as in document 01.' Which of two asks more, the one order, combining and
-- joining.
use Rattle.std.specs.Prelude.{ℕ, suc, Bool, true, false, ◌&&◌, ◌||◌, List, [], ◌∷◌, ◌++◌, map, length, ltb, eqb}
use Rattle.std.specs.Prelude.{Option, None, Some}
use Rattle.base.specs.Choice.{pick}
use Rattle.logic.specs.Time.{at_most, same_ticks}
use Rattle.logic.specs.Book.{Formula, constant, proposition, and, or, next, always_for, until}
use Rattle.logic.specs.declared.Tick.{Tick}
use Rattle.pending.specs.Pending.{Pending, merge}
use Rattle.alternatives.specs.Least.{least}

-- what an alternative says of its first node, and of the others; past its end, nothing
unfoldable pub first_cell : Pending → Option Tick
first_cell [] = None
first_cell (o ∷ p) = o

unfoldable pub later_cells : Pending → Pending
later_cells [] = []
later_cells (o ∷ p) = p

-- ---- which asks more

-- r ticks ask no more of node f than q: the larger A and the smaller U number ask more. No other node has two numbers.
unfoldable pub no_more_ticks : Formula → Tick → Tick → Bool
no_more_ticks (constant b) r q = same_ticks r q
no_more_ticks (proposition w k) r q = same_ticks r q
no_more_ticks (and f g) r q = same_ticks r q
no_more_ticks (or f g) r q = same_ticks r q
no_more_ticks (next c t g) r q = same_ticks r q
no_more_ticks (always_for t g) r q = at_most r q
no_more_ticks (until t f g) r q = at_most q r

-- nothing asks no more than anything
unfoldable pub no_more_cell : Formula → Option Tick → Option Tick → Bool
no_more_cell f None o = true
no_more_cell f (Some r) None = false
no_more_cell f (Some r) (Some q) = no_more_ticks f r q

-- p asks no more than q at any node; fs are the nodes
unfoldable pub asks_no_more : List Formula → Pending → Pending → Bool
asks_no_more [] p q = true
asks_no_more (f ∷ fs) p q = no_more_cell f (first_cell p) (first_cell q) && asks_no_more fs (later_cells p) (later_cells q)

-- ---- the order

-- nothing comes before a number
unfoldable pub cell_number : Option Tick → ℕ
cell_number None = 0
cell_number (Some r) = suc r.0

-- compared by their numbers from the lowest node up
unfoldable pub earlier : Pending → Pending → Bool
earlier [] [] = false
earlier [] (u ∷ q) = true
earlier (o ∷ p) [] = false
earlier (o ∷ p) (u ∷ q) = ltb (cell_number o) (cell_number u) || (eqb (cell_number o) (cell_number u) && earlier p q)

-- ---- sets

-- The set of alternatives that the nodes fs leave of some: those that ask least, in the order.
unfoldable pub set_of : List Formula → List Pending → List Pending
set_of fs ps = least (asks_no_more fs) earlier ps

-- what is asked of a node by both: where it comes up twice, A keeps the larger number, U the smaller
unfoldable pub both_cells : Formula → Option Tick → Option Tick → Option Tick
both_cells f None u = u
both_cells f (Some r) None = Some r
both_cells f (Some r) (Some q) = Some (merge f q r)

-- both of two alternatives, as one
unfoldable pub both : List Formula → Pending → Pending → Pending
both [] p q = []
both (f ∷ fs) p q = both_cells f (first_cell p) (first_cell q) ∷ both fs (later_cells p) (later_cells q)

-- each of ps together with each of qs
unfoldable pub together : List Formula → List Pending → List Pending → List Pending
together fs [] qs = []
together fs (p ∷ ps) qs = map (both fs p) qs ++ together fs ps qs

-- ---- at most 16

-- What a combination gives: over 16 alternatives, or these. None is left where the step is broken.
pub data Alternatives : Type 0 where
  over : Alternatives
  these : List Pending → Alternatives

-- no alternative is left
abbrev pub broken : Alternatives
broken = these []

unfoldable pub most_alternatives : ℕ
most_alternatives = 16

-- counted after a combination and its dropping
unfoldable pub counted : List Pending → Alternatives
counted ps = pick (ltb most_alternatives (length ps)) (λ _. over) (λ _. these ps)

-- two that are both to be met. Over 16 stays so, even where the other has broken.
unfoldable pub combined : List Formula → Alternatives → Alternatives → Alternatives
combined fs over t = over
combined fs (these ps) over = over
combined fs (these ps) (these qs) = counted (set_of fs (together fs ps qs))

-- two of which either is to be met
unfoldable pub joined_with : List Formula → Alternatives → Alternatives → Alternatives
joined_with fs over t = over
joined_with fs (these ps) over = over
joined_with fs (these ps) (these qs) = counted (set_of fs (ps ++ qs))
