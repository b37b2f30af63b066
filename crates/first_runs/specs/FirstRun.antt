-- 02, item 4: 'a shortest allowed run ..; among those of one length, the first by action numbers compared from the left', as what is found where
-- all runs are tried in that order.
use Rattle.std.specs.Prelude.{ℕ, zero, suc, Bool, List, [], ◌∷◌, map}
use Rattle.std.specs.Prelude.{Option, None, Some}
use Rattle.base.specs.Choice.{pick}
use Rattle.base.specs.Lists.{below, joined}

-- the first element that passes the test
unfoldable pub first_of : {X : Type 0} → (X → Bool) → List X → Option X
first_of test [] = None
first_of test (x ∷ xs) = pick (test x) (λ _. Some x) (λ _. first_of test xs)

-- the first option, or where it is nothing the second
unfoldable pub or_else : {X : Type 0} → Option X → (Unit {0} → Option X) → Option X
or_else None o = o tt
or_else (Some x) o = Some x

-- the runs that begin with action a, where it leads somewhere
unfoldable pub runs_by : {X : Type 0} → (X → List (List ℕ)) → ℕ → Option X → List (List ℕ)
runs_by rest a None = []
runs_by rest a (Some y) = map (λ w. a ∷ w) (rest y)

-- all runs of n actions from x by the given moves, each action below the number given, by action numbers compared from the left
unfoldable pub runs_of : {X : Type 0} → (X → ℕ → Option X) → ℕ → ℕ → X → List (List ℕ)
runs_of move actions zero x = [] ∷ []
runs_of move actions (suc n) x = joined (map (λ a. runs_by (runs_of move actions n) a (move x a)) (below actions))

-- the first run from x that passes the test: the shorter ones are tried before the longer ones, from n actions on; so many lengths are tried
unfoldable pub first_run : {X : Type 0} → (X → ℕ → Option X) → ℕ → X → (List ℕ → Bool) → ℕ → ℕ → Option (List ℕ)
first_run move actions x test zero n = None
first_run move actions x test (suc lengths) n =
    or_else (first_of test (runs_of move actions n x)) (λ _. first_run move actions x test lengths (suc n))
