-- The graph of pairs: numbers in place of pairs. What the maker's phases say of it, each without an algorithm.
use Rattle.std.specs.Prelude.{ℕ, ◌<◌, ◌≡◌, Bool, true, false, eqb}
use Rattle.std.specs.Prelude.{Option, None, Some}
use Rattle.base.specs.Choice.{pick}
use Rattle.base.specs.Lists.{same_option}
use Rattle.logic.specs.Tower.{controllable, goes_on}

-- What an action does from a pair.
pub data Move : Type 0 where
  -- it is not enabled there
  not_enabled : Move
  -- the step is broken
  broken : Move
  -- it leads to the pair with this number
  to : ℕ → Move

-- So many pairs and actions, each pair's tower state, each action's kind, and where each action leads.
pub record Graph : Type 0 where
  pub pairs : ℕ
  pub actions : ℕ
  pub state : ℕ → ℕ
  pub kind : ℕ → ℕ
  pub move : ℕ → ℕ → Move

-- The move leads to a pair that is safe.
pub data LeadsTo (safe : ℕ → Bool) : Move → Type 0 where
  led : (j : ℕ) → safe j ≡ true → LeadsTo safe (to j)

-- Pair i is fine among the safe: no action that may not be withheld leads out of them, and some action goes on inside them.
pub record Fine (graph : Graph) (safe : ℕ → Bool) (i : ℕ) : Type 0 where
  pub forced : (a : ℕ) → a < graph.actions → controllable (graph.kind a) ≡ false → (graph.move i a ≡ not_enabled → ⊥)
      → LeadsTo safe (graph.move i a)
  pub action : ℕ
  pub listed : action < graph.actions
  pub goes : goes_on (graph.kind action) ≡ true
  pub leads : LeadsTo safe (graph.move i action)

-- The largest set of pairs that are fine among themselves: what removal leaves.
pub record Largest (graph : Graph) (safe : ℕ → Bool) : Type 0 where
  pub fine : (i : ℕ) → i < graph.pairs → safe i ≡ true → Fine graph safe i
  pub holds_all : (other : ℕ → Bool) → ((i : ℕ) → i < graph.pairs → other i ≡ true → Fine graph other i)
      → (i : ℕ) → i < graph.pairs → other i ≡ true → safe i ≡ true

-- the pair that an allowed action leads to: one that is safe
unfoldable pub allowed_to : (ℕ → Bool) → Move → Option ℕ
allowed_to safe not_enabled = None
allowed_to safe broken = None
allowed_to safe (to j) = pick (safe j) (λ _. Some j) (λ _. None)

-- Two pairs that no action tells apart at once: equal state, and each action allowed in both or in neither, leading to the same.
pub record AlikeNow (graph : Graph) (safe : ℕ → Bool) (same : ℕ → ℕ → Bool) (i j : ℕ) : Type 0 where
  pub state : graph.state i ≡ graph.state j
  pub steps : (a : ℕ) → a < graph.actions → same_option same (allowed_to safe (graph.move i a)) (allowed_to safe (graph.move j a)) ≡ true

-- pair i is there and safe
pub record SafePair (graph : Graph) (safe : ℕ → Bool) (i : ℕ) : Type 0 where
  pub there : i < graph.pairs
  pub is_safe : safe i ≡ true

-- The classes of safe pairs: no two of one class are ever told apart, and two that are never told apart are of one class.
pub record Classes (graph : Graph) (safe : ℕ → Bool) (class : ℕ → ℕ) : Type 0 where
  pub stable : (i j : ℕ) → SafePair graph safe i → SafePair graph safe j → class i ≡ class j
      → AlikeNow graph safe (λ k l. eqb (class k) (class l)) i j
  pub coarsest : (same : ℕ → ℕ → Bool)
      → ((i j : ℕ) → SafePair graph safe i → SafePair graph safe j → same i j ≡ true → AlikeNow graph safe same i j)
      → (i j : ℕ) → SafePair graph safe i → SafePair graph safe j → same i j ≡ true → class i ≡ class j
