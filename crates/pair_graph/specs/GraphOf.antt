-- When a graph of numbers is that of the pairs of a tower and a book.
use Rattle.std.specs.Prelude.{ℕ, ◌<◌, ◌≡◌, length, get_or}
use Rattle.std.specs.Prelude.{None, Some}
use Rattle.logic.specs.Tower.{Tower}
use Rattle.logic.specs.Book.{Book}
use Rattle.alternatives.specs.Pairs.{Pair, first_pair, pair_step, pairs}
use Rattle.pair_graph.specs.Graph.{Move, not_enabled, broken, to, Graph}

-- pair number i
unfoldable pub numbered : Tower → Book → ℕ → Pair
numbered tower book i = get_or (pairs tower book) i (first_pair tower book)

-- What the move of an action from a pair has to say. A step by an enabled action that leads to no pair is broken.
pub data SaysStep (tower : Tower) (book : Book) (i a : ℕ) : Move → Type 0 where
  says_not_enabled : tower.target (numbered tower book i).state a ≡ None → SaysStep tower book i a not_enabled
  says_broken : (y : ℕ) → tower.target (numbered tower book i).state a ≡ Some y → pair_step tower book (numbered tower book i) a ≡ None
      → SaysStep tower book i a broken
  says_to : (j : ℕ) → j < length (pairs tower book) → pair_step tower book (numbered tower book i) a ≡ Some (numbered tower book j)
      → SaysStep tower book i a (to j)

-- The graph is that of the pairs, numbered as they are met.
pub record GraphOf (tower : Tower) (book : Book) (graph : Graph) : Type 0 where
  pub count : graph.pairs ≡ length (pairs tower book)
  pub actions : graph.actions ≡ tower.actions
  pub kinds : (a : ℕ) → graph.kind a ≡ tower.kind a
  pub states : (i : ℕ) → i < graph.pairs → graph.state i ≡ (numbered tower book i).state
  pub moves : (i a : ℕ) → i < graph.pairs → a < graph.actions → SaysStep tower book i a (graph.move i a)
