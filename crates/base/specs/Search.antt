-- Breadth-first search and rounds until nothing changes: the two ways of computing that the outcomes share. X is any type with a test for
-- what counts as one and the same.
use Rattle.std.specs.Prelude.{ℕ, zero, suc, ◌≡◌, Bool, false, List, [], ◌∷◌, ◌++◌, map, ltb}
use Rattle.std.specs.Bool.{beq}
use Rattle.base.specs.Choice.{pick}
use Rattle.base.specs.Lists.{every, some_of, total}

-- No two elements are one and the same.
unfoldable pub Apart : {X : Type 0} → (X → X → Bool) → List X → Type 0
Apart same [] = Unit {0}
Apart same (x ∷ xs) = (some_of (same x) xs ≡ false) × Apart same xs

-- the elements of xs that are new beside those seen, each once
unfoldable pub new_ones : {X : Type 0} → (X → X → Bool) → List X → List X → List X
new_ones same seen [] = []
new_ones same seen (x ∷ xs) =
    pick (some_of (same x) seen) (λ _. new_ones same seen xs) (λ _. x ∷ new_ones same (seen ++ (x ∷ [])) xs)

-- What is met from those seen, where `todo` are the ones whose followers are still to be looked at: in the order met, until nothing is left
-- to do, those seen weigh more than `most`, or n have been looked at.
unfoldable pub search_on : {X : Type 0} → (X → X → Bool) → (X → List X) → (X → ℕ) → ℕ → ℕ → List X → List X → List X
search_on same followers weight most zero seen todo = seen
search_on same followers weight most (suc n) seen [] = seen
search_on same followers weight most (suc n) seen (x ∷ todo) =
    pick (ltb most (total (map weight seen))) (λ _. seen) (λ _.
    search_on same followers weight most n (seen ++ new_ones same seen (followers x)) (todo ++ new_ones same seen (followers x)))

-- what is met from x in breadth-first order: all of it if that weighs at most `most`, and else so much that it weighs more; each weighs
-- 1 or more
unfoldable pub search_from : {X : Type 0} → (X → X → Bool) → (X → List X) → (X → ℕ) → ℕ → X → List X
search_from same followers weight most x = search_on same followers weight most (suc most) (x ∷ []) (x ∷ [])

-- the weight where each counts once
abbrev pub once : {X : Type 0} → X → ℕ
once x = 1

-- the first round k, from the given one on, after which the test changes on none of xs; at most n rounds are looked at
unfoldable pub rest_round : {X : Type 0} → (ℕ → X → Bool) → List X → ℕ → ℕ → ℕ
rest_round test xs zero k = k
rest_round test xs (suc n) k =
    pick (every (λ x. beq (test k x) (test (suc k) x)) xs) (λ _. k) (λ _. rest_round test xs n (suc k))
