-- The one form in which the least of several things are kept, an ordered antichain: in the order, and of any two each asks something that the other
-- does not.
use Rattle.std.specs.Prelude.{◌≡◌, Bool, true, false}
use mathlib.Core.List.{List, [], ◌∷◌, Memᴰ}

-- x comes before y, and each asks something that the other does not.
pub record StandsBefore {X : Type 0} (no_more : X → X → Bool) (earlier : X → X → Bool) (x y : X) : Type 0 where
  pub before : earlier x y ≡ true
  pub first_asks : no_more x y ≡ false
  pub second_asks : no_more y x ≡ false

-- Each element and every later one are so.
unfoldable pub Antichain : {X : Type 0} → (X → X → Bool) → (X → X → Bool) → List X → Type 0
Antichain no_more earlier [] = Unit {0}
Antichain {X} no_more earlier (x ∷ xs) = ((y : X) → Memᴰ y xs → StandsBefore no_more earlier x y) × Antichain no_more earlier xs
