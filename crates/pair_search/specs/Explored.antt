-- What the search for the pairs of a tower promises.
use Rattle.std.specs.Prelude.{ℕ, ◌+◌, ◌*◌, ◌≤◌, ◌<◌, ◌≡◌, Bool, ◌||◌, List, [], ◌∷◌, ◌++◌, map, length}
use Rattle.base.specs.Choice.{pick}
use Rattle.base.specs.Lists.{total}
use Rattle.base.specs.Search.{new_ones}
use Rattle.logic.specs.Tower.{Tower}
use Rattle.logic.specs.Book.{Book}
use Rattle.alternatives.specs.Pairs.{Pair, same_pair, first_pair, pair_weight, over_full, pair_followers, pairs, over_pairs, over_alternatives}
use Rattle.book_progression.specs.NodeBytes.{IsHeld}
use Rattle.set_index.specs.Entries.{entry_first, entry_at, Indexed}
use Rattle.pair_graph.specs.Steps.{graph_of, HoldsGraph}
use Rattle.pair_graph.specs.GraphOf.{GraphOf}
use Rattle.pair_trial.specs.Trial.{pair_in}
use Rattle.pair_step.specs.Stepped.{pairs_of, PairsFilled, RightGraph}
use Rattle.std.specs.Prelude.{Ok, Err}
use Rattle.base.specs.Answers.{Answer}
use Rattle.base.specs.declared.Refusal.TheVariants.{Pairs, Alternatives}
use Rattle.pair_search.specs.declared.Round.{Round}

-- ---- the whole

-- how the search ends: 11, 20, or so many pairs
unfoldable pub found : Tower → Book → Answer ℕ
found tower book =
    pick (over_pairs tower book) (λ _. Err Pairs) (λ _.
    pick (over_alternatives tower book) (λ _. Err Alternatives) (λ _.
    Ok (length (pairs tower book))))

-- The area holds the n pairs of a tower and a book, numbered as they are met, and where each action leads from each of them.
pub record HoldsPairs (tower : Tower) (nodes graph : List ℕ) (n : ℕ) : Type 0 where
  pub least : 1 ≤ n
  pub holds : HoldsGraph n tower.actions graph
  pub pairs_graph : (h : IsHeld nodes) → GraphOf tower h.book (graph_of tower n graph)

-- The search ends as the definition says for the book that the area holds, and leaves the graph of the pairs, unless they are too many or one
-- is over_full.
pub record Explored (r : Answer ℕ) (tower : Tower) (nodes graph : List ℕ) : Type 0 where
  pub says : (h : IsHeld nodes) → r ≡ found tower h.book
  pub pairs_held : (n : ℕ) → r ≡ Ok n → HoldsPairs tower nodes graph n

-- ---- one pair, and all

-- those seen, with what is new among the followers of v
unfoldable pub with_new : Tower → Book → List Pair → Pair → List Pair
with_new tower book seen v = seen ++ new_ones same_pair seen (pair_followers tower book v)

-- Pair i is expanded: all that is new among its followers is there, and its part of the graph is right, unless they count over 1,000.
pub record Grown (m : ℕ) (tower : Tower) (nodes : List ℕ) (wide : Bool) (area : List ℕ) (i n : ℕ) (after index graph : List ℕ) : Type 0 where
  pub least : n ≤ m
  pub most : m ≤ 1001
  pub filled : PairsFilled tower nodes wide after m
  pub indexed : Indexed after index m
  pub kept : (j : ℕ) → j < n → entry_at after j ≡ entry_at area j
  pub done : entry_first after m ≤ 1000 → (h : IsHeld nodes)
      → pairs_of nodes after m ≡ with_new tower h.book (pairs_of nodes area n) (pair_in nodes area i)
  pub right : entry_first after m ≤ 1000 → RightGraph tower nodes after m graph (i + 1) (16 * (i + 1))
  pub many : 1000 < entry_first after m → (h : IsHeld nodes)
      → 1000 < total (map pair_weight (with_new tower h.book (pairs_of nodes area n) (pair_in nodes area i)))

-- A turn of the search: pair i is over_full and stepped from by no action, or expanded. An over_full pair has no followers, so that both are one.
-- The answer says whether it is over_full, or some pair before it was.
pub record Turned (done : Round) (before : Bool) (tower : Tower) (nodes : List ℕ) (wide : Bool) (area : List ℕ) (i n : ℕ) (after index graph : List ℕ) : Type 0 where
  pub grown : Grown done.met tower nodes wide area i n after index graph
  pub is_over : (h : IsHeld nodes) → done.over ≡ (before || over_full tower h.book (pair_in nodes area i))

-- The first pair is there: the start state, with the `start` formulas pending. The index knows it.
pub record SearchBegun (tower : Tower) (nodes area index : List ℕ) : Type 0 where
  pub filled : (wide : Bool) → PairsFilled tower nodes wide area 1
  pub light : entry_first area 1 ≡ 1
  pub indexed : Indexed area index 1
  pub first : (h : IsHeld nodes) → pairs_of nodes area 1 ≡ first_pair tower h.book ∷ []
