-- Places that are numbered as they are first met, places in order and actions ascending; how each was first met; and the run that leads there so.
use Rattle.std.specs.Prelude.{ℕ, ◌≤◌, ◌<◌, ◌≡◌, ◌⊎◌, List, [], ◌∷◌, ◌++◌}
use Rattle.std.specs.Prelude.{Option, Some}

-- Action a from place i comes no later than action b from place k.
unfoldable pub NoLater : ℕ → ℕ → ℕ → ℕ → Type 0
NoLater i a k b = (i < k) ⊎ ((i ≡ k) × (a ≤ b))

-- Place j was first met by this action from this place: before it no step leads to j, nor to a later place. The place is earlier than j.
pub record FirstMetBy (go : ℕ → ℕ → Option ℕ) (j from action : ℕ) : Type 0 where
  pub earlier : from < j
  pub leads : go from action ≡ Some j
  pub first : (i a k : ℕ) → go i a ≡ Some k → j ≤ k → NoLater from action i a

-- The n places are numbered as they are first met, and `from` and `action` say how. Steps from them lead to them.
pub record Numbered (go : ℕ → ℕ → Option ℕ) (n : ℕ) (from action : ℕ → ℕ) : Type 0 where
  pub some_place : 0 < n
  pub inside : (i a j : ℕ) → i < n → go i a ≡ Some j → j < n
  pub met : (j : ℕ) → 0 < j → j < n → FirstMetBy go j (from j) (action j)

-- The run that leads to place j as each place was first met.
pub data WayTo (from action : ℕ → ℕ) : ℕ → List ℕ → Type 0 where
  way_start : WayTo from action 0 []
  way_on : (j : ℕ) (w : List ℕ) → 0 < j → WayTo from action (from j) w → WayTo from action j (w ++ (action j ∷ []))
