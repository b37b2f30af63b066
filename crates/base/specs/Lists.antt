-- Lists and options, where the library has no such function.
use Rattle.std.specs.Prelude.{ℕ, zero, suc, ◌+◌, Bool, true, false, ◌&&◌, ◌||◌, eqb}
use Rattle.std.specs.Prelude.{Option, None, Some}
use mathlib.Core.List.{List, [], ◌∷◌, ◌++◌, Memᴰ}
use Rattle.base.specs.Choice.{pick}

-- every element passes the test
unfoldable pub every {ℓ} : {X : Type ℓ} → (X → Bool) → List X → Bool
every test [] = true
every test (x ∷ xs) = test x && every test xs

-- some element passes the test
unfoldable pub some_of {ℓ} : {X : Type ℓ} → (X → Bool) → List X → Bool
some_of test [] = false
some_of test (x ∷ xs) = test x || some_of test xs

-- the n numbers from k on, in order
unfoldable pub count_from : ℕ → ℕ → List ℕ
count_from k zero = []
count_from k (suc n) = k ∷ count_from (suc k) n

-- the numbers below n, in order
unfoldable pub below : ℕ → List ℕ
below n = count_from 0 n

-- the values that are there, in order
unfoldable pub present : {X : Type 0} → List (Option X) → List X
present [] = []
present (None ∷ os) = present os
present (Some x ∷ os) = x ∷ present os

-- something is there
unfoldable pub is_there : {X : Type 0} → Option X → Bool
is_there None = false
is_there (Some x) = true

-- what is there passes the test; nothing does not
unfoldable pub there_with : {X : Type 0} → (X → Bool) → Option X → Bool
there_with test None = false
there_with test (Some x) = test x

-- the value that is there, if it passes the test
unfoldable pub only_if : {X : Type 0} → (X → Bool) → Option X → Option X
only_if test None = None
only_if test (Some x) = pick (test x) (λ _. Some x) (λ _. None)

-- both are nothing, or both are there and alike by the test
unfoldable pub same_option : {X : Type 0} → (X → X → Bool) → Option X → Option X → Bool
same_option same None None = true
same_option same None (Some y) = false
same_option same (Some x) None = false
same_option same (Some x) (Some y) = same x y

-- of one length, and alike by the test place by place
unfoldable pub same_list {ℓ} : {X : Type ℓ} → (X → X → Bool) → List X → List X → Bool
same_list same [] [] = true
same_list same [] (y ∷ ys) = false
same_list same (x ∷ xs) [] = false
same_list same (x ∷ xs) (y ∷ ys) = same x y && same_list same xs ys

-- the place of the first element that passes the test; the length if there is none
unfoldable pub place_of {ℓ} : {X : Type ℓ} → (X → Bool) → List X → ℕ
place_of test [] = 0
place_of test (x ∷ xs) = pick (test x) (λ _. 0) (λ _. suc (place_of test xs))

-- the lists one after the other
unfoldable pub joined {ℓ} : {X : Type ℓ} → List (List X) → List X
joined [] = []
joined (xs ∷ rest) = xs ++ joined rest

-- the sum of the numbers
unfoldable pub total : List ℕ → ℕ
total [] = 0
total (n ∷ ns) = n + total ns

-- how many leading elements pass the test
unfoldable pub leading {ℓ} : {X : Type ℓ} → (X → Bool) → List X → ℕ
leading test [] = 0
leading test (x ∷ xs) = pick (test x) (λ _. suc (leading test xs)) (λ _. 0)

-- the first list begins the second
unfoldable pub begins : List ℕ → List ℕ → Bool
begins [] ys = true
begins (x ∷ xs) [] = false
begins (x ∷ xs) (y ∷ ys) = eqb x y && begins xs ys

-- no element stands twice
unfoldable pub Distinct {ℓ} : {X : Type ℓ} → List X → Type ℓ
Distinct [] = Unit
Distinct (x ∷ xs) = (Memᴰ x xs → ⊥) × Distinct xs
