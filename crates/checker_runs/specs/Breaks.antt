-- The broken steps of a graph of pairs, and the first of them.
use Rattle.std.specs.Prelude.{ℕ, ◌≤◌, ◌<◌, ◌≡◌, Bool, true, false, List, Option, Some, None}
use Rattle.first_runs.specs.Numbered.{NoLater}
use Rattle.pair_graph.specs.Graph as Moves
use Rattle.pair_graph.specs.Steps.{move_at}

-- the move is a broken step
unfoldable pub is_broken : Moves.Move → Bool
is_broken Moves.not_enabled = false
is_broken Moves.broken = true
is_broken (Moves.to j) = false

-- action a makes a broken step from pair i
unfoldable pub broken_at : List ℕ → ℕ → ℕ → Bool
broken_at graph i a = is_broken (move_at graph i a)

-- The first broken step of n pairs: the lowest pair from which one is, and the lowest action by which it is.
pub record FirstBreak (graph : List ℕ) (n actions i a : ℕ) : Type 0 where
  pub pair : i < n
  pub action : a < actions
  pub broken : broken_at graph i a ≡ true
  pub first : (k b : ℕ) → k < n → b < actions → broken_at graph k b ≡ true → NoLater i a k b

-- No step from the first n pairs is broken.
pub record NoBreak (graph : List ℕ) (n actions : ℕ) : Type 0 where
  pub whole : (k b : ℕ) → k < n → b < actions → broken_at graph k b ≡ false

-- No action before this one makes a broken step from pair i.
pub record NoneBefore (a : ℕ) (graph : List ℕ) (i : ℕ) : Type 0 where
  pub before : (b : ℕ) → b < a → broken_at graph i b ≡ false

-- The lowest action that makes a broken step from pair i, if one does.
pub record FirstAction (r : Option ℕ) (graph : List ℕ) (actions i : ℕ) : Type 0 where
  pub no_action : r ≡ None → NoneBefore actions graph i
  pub few : (a : ℕ) → r ≡ Some a → a < actions
  pub broken : (a : ℕ) → r ≡ Some a → broken_at graph i a ≡ true
  pub lowest : (a : ℕ) → r ≡ Some a → NoneBefore a graph i
