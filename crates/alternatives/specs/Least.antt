-- The least of several things, by a test that says of two whether the first asks no more than the second; kept in an order. 02, item 3: 'An
-- alternative is dropped if another asks no more .. Two equal ones are kept as one.'
use Rattle.std.specs.Prelude.{Bool, List, [], ◌∷◌}
use Rattle.base.specs.Choice.{pick}
use Rattle.base.specs.Lists.{some_of}

module _ {X : Type 0} (no_more : X → X → Bool) (earlier : X → X → Bool) where
  -- those of which x does not ask as little or less: the others are dropped
  unfoldable pub without : X → List X → List X
  without x [] = []
  without x (y ∷ ys) = pick (no_more x y) (λ _. without x ys) (λ _. y ∷ without x ys)

  -- x before the first that it is earlier than
  unfoldable pub placed : X → List X → List X
  placed x [] = x ∷ []
  placed x (y ∷ ys) = pick (earlier x y) (λ _. x ∷ (y ∷ ys)) (λ _. y ∷ placed x ys)

  -- one more: it is dropped if one of those that are there asks no more, and else takes its place among those that stay
  unfoldable pub with_one_more : X → List X → List X
  with_one_more x ys = pick (some_of (λ y. no_more y x) ys) (λ _. ys) (λ _. placed x (without x ys))

  -- some more, one after the other
  unfoldable pub with_more : List X → List X → List X
  with_more ys [] = ys
  with_more ys (x ∷ xs) = with_more (with_one_more x ys) xs

  -- what stays of them
  unfoldable pub least : List X → List X
  least xs = with_more [] xs
