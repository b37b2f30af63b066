-- What a function has for the numbers from a on: a loop over actions takes them one by one.
use Prim.Native.Nat.{ℕ, suc, ◌+◌, ◌-◌, ◌≤◌, ◌<◌}
use native.Mathlib.Omega.{arith}
use native.Mathlib.Numerals.{add-one}
use mathlib.Core.Path.{◌≡◌, refl}
use Rattle.std.specs.Prelude.{Option, None, Some}
use mathlib.Core.List.{List, [], ◌∷◌, ◌++◌, map}
use Rattle.base.specs.Lists.{below, count_from, present}

-- What is there first, and then the rest.
present_cons : {X : Type 0} (o : Option X) (os : List (Option X)) → present (o ∷ os) ≡ present (o ∷ []) ++ present os
unfolding present
present_cons None os = refl
present_cons (Some x) os = refl

module _ {X : Type 0} (f : ℕ → Option X) (n : ℕ) where
  -- what is there for the numbers from a on, below n
  abbrev pub rest : ℕ → List X
  rest a = present (map f (count_from a (n - a)))

  -- From 0 on that is all.
  pub rest_all : rest 0 ≡ present (map f (below n))
  unfolding below
  rest_all = let e : n - 0 ≡ n = omega arith in rw e

  -- First what is there for a, and then the rest.
  pub rest_next : (a : ℕ) → a < n → rest a ≡ present (f a ∷ []) ++ rest (a + 1)
  unfolding count_from
  rest_next a l =
      let e : n - a ≡ suc (n - suc a) = omega arith in
      rw (e, add-one a) (present_cons (f a) (map f (count_from (suc a) (n - suc a))))

  -- From n on there is nothing.
  pub rest_none : (a : ℕ) → n ≤ a → rest a ≡ []
  unfolding count_from present
  rest_none a l = let e : n - a ≡ 0 = omega arith in rw e
