-- Loops over numbers that follow one another: what is left of them decides about all.
use Prim.Native.Nat.{ℕ, suc, ◌+◌, ◌-◌, ◌≤◌, ◌<◌}
use native.Mathlib.Omega.{arith}
use native.Mathlib.Numerals.{add-one}
use mathlib.Core.Path.{◌≡◌, sym, ◌∙◌, ap}
use mathlib.Core.Bool.{Bool, true, false}
use mathlib.Core.List.{List, [], ◌∷◌}
use Rattle.base.specs.Lists.{some_of, every, count_from}

-- At number i, with `end` behind the last one: the numbers from i on come to the same as all.
pub record Left {A : Type 0} (value : List ℕ → A) (first count end i : ℕ) : Type 0 where
  pub last : end ≡ first + count
  pub inside : i ≤ end
  pub same : value (count_from i (end - i)) ≡ value (count_from first count)

-- At first all are left.
pub left_start : {A : Type 0} (value : List ℕ → A) (first count i n : ℕ) → i ≡ first → n ≡ count → Left value first count (i + n) i
left_start value first count i n e f =
    record { last = omega arith; inside = omega arith; same = let g : i + n - i ≡ n = omega arith in ap value (rw (g, e, f)) }

-- So are they where they begin with 0.
pub left_below : {A : Type 0} (value : List ℕ → A) (count end : ℕ) → end ≡ count → Left value 0 count end 0
left_below value count end e =
    record { last = omega arith; inside = omega arith; same = let f : end - 0 ≡ count = omega arith in rw f }

module _ {A : Type 0} (value : List ℕ → A) (first count end i : ℕ) (left : Left value first count end i) where
  -- The next number and those behind it.
  pub left_cons : i < end → value (i ∷ count_from (i + 1) (end - (i + 1))) ≡ value (count_from first count)
  unfolding count_from
  left_cons l =
      let e : end - i ≡ suc (end - (i + 1)) = omega arith in
      rw (add-one i) (rw (e, add-one i) at left.same)

  -- A number that changes nothing is passed over.
  pub left_more : i < end → value (i ∷ count_from (i + 1) (end - (i + 1))) ≡ value (count_from (i + 1) (end - (i + 1)))
      → Left value first count end (i + 1)
  left_more l e = record { last = left.last; inside = omega arith; same = sym e ∙ left_cons l }

  -- None is left.
  pub left_none : end ≤ i → value [] ≡ value (count_from first count)
  unfolding count_from
  left_none l = let e : end - i ≡ 0 = omega arith in rw e at left.same

-- ---- some number passes a test

module _ (test : ℕ → Bool) (first count end i : ℕ) (left : Left (some_of test) first count end i) where
  -- The next one passes: one is found.
  pub some_found : (b all : Bool) → all ≡ some_of test (count_from first count) → i < end → b ≡ test i → b ≡ true → true ≡ all
  unfolding some_of
  some_found b all e l f g =
      let found : test i ≡ true = sym f ∙ g in
      sym (e ∙ sym (left_cons (some_of test) first count end i left l) ∙ rw found)

  -- It does not pass.
  pub some_more : (b : Bool) → i < end → b ≡ test i → b ≡ false → Left (some_of test) first count end (i + 1)
  unfolding some_of
  some_more b l f g = let failed : test i ≡ false = sym f ∙ g in left_more (some_of test) first count end i left l (rw failed)

  -- None is left.
  pub some_end : (all : Bool) → all ≡ some_of test (count_from first count) → end ≤ i → false ≡ all
  unfolding some_of
  some_end all e l = left_none (some_of test) first count end i left l ∙ sym e

-- ---- every number passes a test

module _ (test : ℕ → Bool) (first count end i : ℕ) (left : Left (every test) first count end i) where
  -- The next one fails.
  pub every_fails : (b all : Bool) → all ≡ every test (count_from first count) → i < end → b ≡ test i → b ≡ false → false ≡ all
  unfolding every
  every_fails b all e l f g =
      let failed : test i ≡ false = sym f ∙ g in
      sym (e ∙ sym (left_cons (every test) first count end i left l) ∙ rw failed)

  -- It passes.
  pub every_more : (b : Bool) → i < end → b ≡ test i → b ≡ true → Left (every test) first count end (i + 1)
  unfolding every
  every_more b l f g = let passed : test i ≡ true = sym f ∙ g in left_more (every test) first count end i left l (rw passed)

  -- None is left.
  pub every_end : (all : Bool) → all ≡ every test (count_from first count) → end ≤ i → true ≡ all
  unfolding every
  every_end all e l = left_none (every test) first count end i left l ∙ sym e
