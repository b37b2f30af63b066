-- Laws of Bool tests, lists and options: what the answer of a test says of the elements, and back. They hold over any element type.
use Prim.Native.Nat.{ℕ, zero, suc, ◌+◌, ◌-◌, ◌≤◌, ◌<◌}
use mathlib.Core.Path.{◌≡◌, refl, sym, ap, ap₂, ◌∙◌}
use mathlib.Core.Logic.{◌⊎◌, inl, inr}
use mathlib.Core.Bool.{Bool, true, false, ◌&&◌, ◌||◌, not, beq, true≢false}
use Rattle.std.specs.Prelude.{option_map}
use Rattle.std.specs.Prelude.{Option, None, Some}
use mathlib.Core.List.Memᴰ
use mathlib.Core.List.{List, [], ◌∷◌, ◌++◌, map, Memᴰ, append_assoc}
use native.Mathlib.Omega.{arith}
use native.Mathlib.Nat.{zero-add}
use lib.ListN.{length, get_or, drop, length-append}
use lib.Dec.{eqb}
use borrow.Author.Tests.{eqb-true, eq-eqb}
use Rattle.base.specs.Choice.{pick}
use Rattle.base.specs.Lists.{every, some_of, count_from, below, present, is_there, there_with, only_if, same_option, same_list, place_of, joined, total, leading, begins, Distinct}

-- ---- Bool (`not-true` and `not-false` are in borrow.Author.Tests)

-- A Bool is true or false; each arm is given the equation.
pub whether {ℓ} : {C : Type ℓ} (b : Bool) → (b ≡ true → C) → (b ≡ false → C) → C
whether true if_so if_not = if_so refl
whether false if_so if_not = if_not refl

-- No Bool is both.
pub never_both {ℓ} : {C : Type ℓ} {b : Bool} → b ≡ true → b ≡ false → C
never_both p q = absurd (true≢false (sym p ∙ q))

-- Two Bools of which each is true if the other is are equal.
pub same_truth : (a b : Bool) → (a ≡ true → b ≡ true) → (b ≡ true → a ≡ true) → a ≡ b
same_truth true b to fro = sym (to refl)
same_truth false true to fro = fro refl
same_truth false false to fro = refl

-- What is not true is false.
pub false_by : (b : Bool) → (b ≡ true → ⊥) → b ≡ false
false_by true h = absurd (h refl)
false_by false h = refl

-- What is not false is true.
pub true_by : (b : Bool) → (b ≡ false → ⊥) → b ≡ true
true_by true h = refl
true_by false h = absurd (h refl)

-- The negation of what is false is true.
pub not_in : {b : Bool} → b ≡ false → not b ≡ true
not_in e = ap not e

-- `a && b` holds: a holds.
pub and_left : (a b : Bool) → (a && b) ≡ true → a ≡ true
and_left true b e = refl
and_left false b e = e

-- `a && b` holds: b holds.
pub and_right : (a b : Bool) → (a && b) ≡ true → b ≡ true
and_right true b e = e
and_right false b e = never_both refl (sym e)

-- Both hold: `a && b` holds.
pub and_both : {a b : Bool} → a ≡ true → b ≡ true → (a && b) ≡ true
and_both {b = b} p q = ap (λ (a : Bool). a && b) p ∙ q

-- `a && b` fails: one of the two fails.
pub and_fails : (a b : Bool) → (a && b) ≡ false → (a ≡ false) ⊎ (b ≡ false)
and_fails true b e = inr e
and_fails false b e = inl e

-- The first fails: `a && b` fails.
pub and_fails_left : {a : Bool} (b : Bool) → a ≡ false → (a && b) ≡ false
and_fails_left b p = ap (λ (a : Bool). a && b) p

-- The second fails: `a && b` fails.
pub and_fails_right : (a : Bool) {b : Bool} → b ≡ false → (a && b) ≡ false
and_fails_right true q = q
and_fails_right false q = refl

-- `a || b` holds: one of the two holds.
pub or_cases : (a b : Bool) → (a || b) ≡ true → (a ≡ true) ⊎ (b ≡ true)
or_cases true b e = inl e
or_cases false b e = inr e

-- The first holds: `a || b` holds.
pub or_left : {a : Bool} (b : Bool) → a ≡ true → (a || b) ≡ true
or_left b p = ap (λ (a : Bool). a || b) p

-- The second holds: `a || b` holds.
pub or_right : (a : Bool) {b : Bool} → b ≡ true → (a || b) ≡ true
or_right true q = refl
or_right false q = q

-- `a || b` fails: a fails.
pub or_fails_left : (a b : Bool) → (a || b) ≡ false → a ≡ false
or_fails_left true b e = e
or_fails_left false b e = refl

-- `a || b` fails: b fails.
pub or_fails_right : (a b : Bool) → (a || b) ≡ false → b ≡ false
or_fails_right true b e = never_both refl e
or_fails_right false b e = e

-- Both fail: `a || b` fails.
pub or_neither : {a b : Bool} → a ≡ false → b ≡ false → (a || b) ≡ false
or_neither {b = b} p q = ap (λ (a : Bool). a || b) p ∙ q

-- Bools that the test calls equal are equal.
pub beq_out : (a b : Bool) → beq a b ≡ true → a ≡ b
beq_out true true e = refl
beq_out true false e = sym e
beq_out false true e = e
beq_out false false e = refl

-- Equal Bools are called equal by the test.
pub beq_in : (a b : Bool) → a ≡ b → beq a b ≡ true
beq_in true true e = refl
beq_in true false e = sym e
beq_in false true e = e
beq_in false false e = refl

-- ---- Every and some

module _ {ℓ} {X : Type ℓ} (test : X → Bool) where
  -- Every element passes: each member does.
  pub every_at : {x : X} {xs : List X} → every test xs ≡ true → Memᴰ x xs → test x ≡ true
  unfolding every
  every_at e (Memᴰ.head {x = y} {xs = ys} p) = ap test p ∙ and_left (test y) (every test ys) e
  every_at e (Memᴰ.tail {x = y} {xs = ys} m) = every_at (and_right (test y) (every test ys) e) m

  -- Each member passes: every element does.
  pub every_all : (xs : List X) → ((x : X) → Memᴰ x xs → test x ≡ true) → every test xs ≡ true
  unfolding every
  every_all [] h = refl
  every_all (x ∷ xs) h = and_both (h x (Memᴰ.head refl)) (every_all xs (λ y m. h y (Memᴰ.tail m)))

  -- Not every element passes: some member fails.
  pub every_false : (xs : List X) → every test xs ≡ false → (x : X) × Memᴰ x xs × (test x ≡ false)
  unfolding every
  every_false [] e = never_both refl e
  every_false (x ∷ xs) e = go (λ q. every_false xs q) (and_fails (test x) (every test xs) e)
    where
      go : (every test xs ≡ false → (y : X) × Memᴰ y xs × (test y ≡ false)) → (test x ≡ false) ⊎ (every test xs ≡ false)
          → (y : X) × Memᴰ y (x ∷ xs) × (test y ≡ false)
      go ih (inl p) = (x, Memᴰ.head refl, p)
      go ih (inr q) = let (y, m, p) = ih q in (y, Memᴰ.tail m, p)

  -- A member fails: not every element passes.
  pub every_not : {x : X} {xs : List X} → Memᴰ x xs → test x ≡ false → every test xs ≡ false
  every_not {xs = xs} m p = false_by (every test xs) (λ e. never_both (every_at e m) p)

  -- Some element passes: a member that does.
  pub some_at : (xs : List X) → some_of test xs ≡ true → (x : X) × Memᴰ x xs × (test x ≡ true)
  unfolding some_of
  some_at [] e = never_both e refl
  some_at (x ∷ xs) e = go (λ q. some_at xs q) (or_cases (test x) (some_of test xs) e)
    where
      go : (some_of test xs ≡ true → (y : X) × Memᴰ y xs × (test y ≡ true)) → (test x ≡ true) ⊎ (some_of test xs ≡ true)
          → (y : X) × Memᴰ y (x ∷ xs) × (test y ≡ true)
      go ih (inl p) = (x, Memᴰ.head refl, p)
      go ih (inr q) = let (y, m, p) = ih q in (y, Memᴰ.tail m, p)

  -- A member passes: some element does.
  pub some_of_mem : {x : X} {xs : List X} → Memᴰ x xs → test x ≡ true → some_of test xs ≡ true
  unfolding some_of
  some_of_mem (Memᴰ.head {x = y} {xs = ys} e) p = or_left (some_of test ys) (ap test (sym e) ∙ p)
  some_of_mem (Memᴰ.tail {x = y} {xs = ys} m) p = or_right (test y) (some_of_mem m p)

  -- No element passes: each member fails.
  pub some_none : {x : X} {xs : List X} → some_of test xs ≡ false → Memᴰ x xs → test x ≡ false
  some_none {x} e m = false_by (test x) (λ p. never_both (some_of_mem m p) e)

  -- Each member fails: no element passes.
  pub none_of : (xs : List X) → ((x : X) → Memᴰ x xs → test x ≡ false) → some_of test xs ≡ false
  none_of xs h = false_by (some_of test xs) (λ e. let (x, m, p) = some_at xs e in never_both p (h x m))

  -- Some element of two lists, one after the other, passes: one of either does.
  pub some_append : (xs ys : List X) → some_of test (xs ++ ys) ≡ (some_of test xs || some_of test ys)
  unfolding some_of
  some_append [] ys = refl
  some_append (x ∷ xs) ys = go (test x) (some_append xs ys)
    where
      go : (b : Bool) → some_of test (xs ++ ys) ≡ (some_of test xs || some_of test ys)
          → (b || some_of test (xs ++ ys)) ≡ ((b || some_of test xs) || some_of test ys)
      go true ih = refl
      go false ih = ih

  -- Every element of two lists, one after the other, passes: every one of both does.
  pub every_append : (xs ys : List X) → every test (xs ++ ys) ≡ (every test xs && every test ys)
  unfolding every
  every_append [] ys = refl
  every_append (x ∷ xs) ys = go (test x) (every_append xs ys)
    where
      go : (b : Bool) → every test (xs ++ ys) ≡ (every test xs && every test ys)
          → (b && every test (xs ++ ys)) ≡ ((b && every test xs) && every test ys)
      go true ih = ih
      go false ih = refl

-- Tests that agree on the members agree on every.
pub every_same {ℓ} : {X : Type ℓ} (test other : X → Bool) (xs : List X) → ((x : X) → Memᴰ x xs → test x ≡ other x)
    → every test xs ≡ every other xs
unfolding every
every_same test other [] h = refl
every_same test other (x ∷ xs) h =
    ap (λ (b : Bool). b && every test xs) (h x (Memᴰ.head refl))
    ∙ ap (λ (b : Bool). other x && b) (every_same test other xs (λ y m. h y (Memᴰ.tail m)))

-- ---- Members by their index

module _ {ℓ} {X : Type ℓ} where
  -- The element at an index below the length is a member.
  pub mem_get_or : (xs : List X) (i : ℕ) (d : X) → i < length xs → Memᴰ (get_or xs i d) xs
  mem_get_or [] i d l = absurd (omega arith)
  mem_get_or (x ∷ xs) zero d l = Memᴰ.head refl
  mem_get_or (x ∷ xs) (suc i) d l = Memᴰ.tail (mem_get_or xs i d (omega arith))

  -- A member stands at some index.
  pub mem_index : (d : X) {x : X} {xs : List X} → Memᴰ x xs → (i : ℕ) × (i < length xs) × (get_or xs i d ≡ x)
  mem_index d (Memᴰ.head p) = (0, omega arith, sym p)
  mem_index d (Memᴰ.tail m) = let (i, l, p) = mem_index d m in (suc i, omega arith, p)

  -- A member of a list is one of an equal list.
  pub mem_along : {x : X} {xs ys : List X} → xs ≡ ys → Memᴰ x xs → Memᴰ x ys
  mem_along {x} {xs} {ys} e m =
      let (i, l, p) = mem_index x m in
      Memᴰ.cast (sym p ∙ ap (λ (zs : List X). get_or zs i x) e) (mem_get_or ys i x (omega (arith, ap length e)))

-- ---- Numbers in order

-- There are n numbers in `count_from k n`.
pub length_count_from : (k n : ℕ) → length (count_from k n) ≡ n
unfolding count_from
length_count_from k zero = refl
length_count_from k (suc n) = ap suc (length_count_from (suc k) n)

-- The one at index i is k + i.
pub get_or_count_from : (k n i d : ℕ) → i < n → get_or (count_from k n) i d ≡ k + i
unfolding count_from
get_or_count_from k zero i d l = absurd (omega arith)
get_or_count_from k (suc n) zero d l = omega arith
get_or_count_from k (suc n) (suc i) d l = get_or_count_from (suc k) n i d (omega arith) ∙ omega arith

-- One number more comes behind the others.
pub count_from_next : (k n : ℕ) → count_from k (suc n) ≡ count_from k n ++ ((k + n) ∷ [])
unfolding count_from
count_from_next k zero = let e : k + 0 ≡ k = omega arith in rw e refl
count_from_next k (suc n) =
    let e : suc k + n ≡ k + suc n = omega arith in
    ap (λ (l : List ℕ). k ∷ l) (count_from_next (suc k) n ∙ ap (λ (i : ℕ). count_from (suc k) n ++ (i ∷ [])) e)

-- A number from k on and below k + n is one of them.
pub count_from_mem : (k n a : ℕ) → k ≤ a → a < k + n → Memᴰ a (count_from k n)
count_from_mem k n a low high =
    at (a - k) (omega arith) (omega arith)
  where
    at : (i : ℕ) → a ≡ k + i → i < n → Memᴰ a (count_from k n)
    at i e l =
        Memᴰ.cast
        (e ∙ sym (get_or_count_from k n i 0 l))
        (mem_get_or (count_from k n) i 0 (omega (arith, length_count_from k n)))

-- Each of them is from k on and below k + n.
pub mem_count_from : (k n : ℕ) {a : ℕ} → Memᴰ a (count_from k n) → (k ≤ a) × (a < k + n)
mem_count_from k n m =
    let (i, l, p) = mem_index 0 m in
    let q = get_or_count_from k n i 0 (omega (arith, length_count_from k n)) in
    (omega arith, omega (arith, length_count_from k n))

-- There are n numbers below n.
pub length_below : (n : ℕ) → length (below n) ≡ n
unfolding below
length_below n = length_count_from 0 n

-- The one at index i is i.
pub get_or_below : (n i d : ℕ) → i < n → get_or (below n) i d ≡ i
unfolding below
get_or_below n i d l = get_or_count_from 0 n i d l ∙ zero-add i

-- A number below n is one of them.
pub below_mem : (n a : ℕ) → a < n → Memᴰ a (below n)
unfolding below
below_mem n a l = count_from_mem 0 n a (omega arith) (omega arith)

-- Each of them is below n.
pub mem_below : (n : ℕ) {a : ℕ} → Memᴰ a (below n) → a < n
unfolding below
mem_below n m = let (low, high) = mem_count_from 0 n m in omega arith

-- Every number below n passes: each one does.
pub every_below : (test : ℕ → Bool) (n a : ℕ) → every test (below n) ≡ true → a < n → test a ≡ true
every_below test n a e l = every_at test e (below_mem n a l)

-- Each number below n passes: every one does.
pub below_every : (test : ℕ → Bool) (n : ℕ) → ((a : ℕ) → a < n → test a ≡ true) → every test (below n) ≡ true
below_every test n h = every_all test (below n) (λ a m. h a (mem_below n m))

-- Some number below n passes: one that does.
pub some_below : (test : ℕ → Bool) (n : ℕ) → some_of test (below n) ≡ true → (a : ℕ) × (a < n) × (test a ≡ true)
some_below test n e = let (a, m, p) = some_at test (below n) e in (a, mem_below n m, p)

-- A number below n passes: some one does.
pub below_some : (test : ℕ → Bool) (n a : ℕ) → a < n → test a ≡ true → some_of test (below n) ≡ true
below_some test n a l p = some_of_mem test (below_mem n a l) p

-- ---- Options

module _ {X : Type 0} where
  -- Something is there: what it is.
  pub is_there_out : (o : Option X) → is_there o ≡ true → (x : X) × (o ≡ Some x)
  unfolding is_there
  is_there_out None e = never_both e refl
  is_there_out (Some x) e = (x, refl)

  -- A value is there: something is there.
  pub is_there_in : {o : Option X} {x : X} → o ≡ Some x → is_there o ≡ true
  unfolding is_there
  is_there_in e = ap is_there e

  -- Nothing is there, by the test: it is nothing.
  pub not_there : (o : Option X) → is_there o ≡ false → o ≡ None
  unfolding is_there
  not_there None e = refl
  not_there (Some x) e = never_both refl e

  -- It is nothing: the test says that nothing is there.
  pub there_not : {o : Option X} → o ≡ None → is_there o ≡ false
  unfolding is_there
  there_not e = ap is_there e

  -- Nothing is not something.
  pub none-some {κ} : {C : Type κ} {o : Option X} {x : X} → o ≡ None → o ≡ Some x → C
  none-some p q = never_both (is_there_in q) (there_not p)

  -- What is there is one value.
  pub some_one : {o : Option X} {x y : X} → o ≡ Some x → o ≡ Some y → x ≡ y
  some_one p q = cc

  -- An option is nothing or a value; each arm is given the equation.
  pub whether_there {κ} : {C : Type κ} (o : Option X) → (o ≡ None → C) → ((x : X) → o ≡ Some x → C) → C
  whether_there None if_not if_so = if_not refl
  whether_there (Some x) if_not if_so = if_so x refl

  -- Two options are alike by the test: both nothing, or both there and alike.
  pub same_option_out : (same : X → X → Bool) (o p : Option X) → same_option same o p ≡ true
      → ((o ≡ None) × (p ≡ None)) ⊎ ((x : X) × ((y : X) × (o ≡ Some x) × (p ≡ Some y) × (same x y ≡ true)))
  unfolding same_option
  same_option_out same None None e = inl (refl, refl)
  same_option_out same None (Some y) e = never_both e refl
  same_option_out same (Some x) None e = never_both e refl
  same_option_out same (Some x) (Some y) e = inr (x, (y, refl, refl, e))

  -- The test decides equality of options if it does so of their values, this way
  pub same_option_eq : (same : X → X → Bool) → ((x y : X) → same x y ≡ true → x ≡ y) → (o p : Option X) → same_option same o p ≡ true → o ≡ p
  unfolding same_option
  same_option_eq same h None None e = refl
  same_option_eq same h None (Some y) e = never_both e refl
  same_option_eq same h (Some x) None e = never_both e refl
  same_option_eq same h (Some x) (Some y) e = ap {B = Option X} Some (h x y e)

  same_option_refl : (same : X → X → Bool) → ((x : X) → same x x ≡ true) → (o : Option X) → same_option same o o ≡ true
  unfolding same_option
  same_option_refl same h None = refl
  same_option_refl same h (Some x) = h x

  -- and back.
  pub eq_same_option : (same : X → X → Bool) → ((x : X) → same x x ≡ true) → {o p : Option X} → o ≡ p → same_option same o p ≡ true
  eq_same_option same h {o} e = ap (λ (p : Option X). same_option same o p) (sym e) ∙ same_option_refl same h o

  -- The test decides equality of lists if it does so of their elements, this way
  pub same_list_eq : (same : X → X → Bool) → ((x y : X) → same x y ≡ true → x ≡ y) → (xs ys : List X) → same_list same xs ys ≡ true → xs ≡ ys
  unfolding same_list
  same_list_eq same h [] [] e = refl
  same_list_eq same h [] (y ∷ ys) e = never_both e refl
  same_list_eq same h (x ∷ xs) [] e = never_both e refl
  same_list_eq same h (x ∷ xs) (y ∷ ys) e =
      let p = h x y (and_left (same x y) (same_list same xs ys) e) in
      let q = same_list_eq same h xs ys (and_right (same x y) (same_list same xs ys) e) in
      cc

  same_list_refl : (same : X → X → Bool) → ((x : X) → same x x ≡ true) → (xs : List X) → same_list same xs xs ≡ true
  unfolding same_list
  same_list_refl same h [] = refl
  same_list_refl same h (x ∷ xs) = and_both (h x) (same_list_refl same h xs)

  -- and back.
  pub eq_same_list : (same : X → X → Bool) → ((x : X) → same x x ≡ true) → {xs ys : List X} → xs ≡ ys → same_list same xs ys ≡ true
  eq_same_list same h {xs} e = ap (λ (ys : List X). same_list same xs ys) (sym e) ∙ same_list_refl same h xs

module _ {X : Type 0} (test : X → Bool) where
  -- What is there passes the test: the value, and that it passes.
  pub there_with_out : (o : Option X) → there_with test o ≡ true → (x : X) × (o ≡ Some x) × (test x ≡ true)
  unfolding there_with
  there_with_out None e = never_both e refl
  there_with_out (Some x) e = (x, refl, e)

  -- A value is there and passes: the test holds.
  pub there_with_in : {o : Option X} {x : X} → o ≡ Some x → test x ≡ true → there_with test o ≡ true
  unfolding there_with
  there_with_in p q = ap (there_with test) p ∙ q

  -- What is kept was there and passes.
  pub only_if_out : (o : Option X) {x : X} → only_if test o ≡ Some x → (o ≡ Some x) × (test x ≡ true)
  unfolding only_if
  only_if_out None e = none-some refl e
  only_if_out (Some y) {x} e = go (test y) refl e
    where
      go : (b : Bool) → test y ≡ b → pick b (λ _. Some y) (λ _. None) ≡ Some x → (Some y ≡ Some x) × (test x ≡ true)
      go true p q = (q, ap test (some_one q refl) ∙ p)
      go false p q = none-some refl q

  -- What was there and passes is kept.
  pub only_if_in : {o : Option X} {x : X} → o ≡ Some x → test x ≡ true → only_if test o ≡ Some x
  unfolding only_if
  only_if_in {x = x} p q = ap (only_if test) p ∙ ap (λ (b : Bool). pick b (λ _. Some x) (λ _. None)) q

-- ---- What is there in a list of options

module _ {X : Type 0} where
  -- A value that is there in the list is present.
  pub present_in : {x : X} (os : List (Option X)) → Memᴰ (Some x) os → Memᴰ x (present os)
  unfolding present
  present_in [] m = absurd (Memᴰ.not-nil m)
  present_in {x} (None ∷ os) m = go (λ n. present_in os n) (Memᴰ.cases_cons m)
    where
      go : (Memᴰ (Some x) os → Memᴰ x (present os)) → (Some x ≡ None) ⊎ Memᴰ (Some x) os → Memᴰ x (present os)
      go ih (inl e) = none-some e refl
      go ih (inr n) = ih n
  present_in {x} (Some y ∷ os) m = go (λ n. present_in os n) (Memᴰ.cases_cons m)
    where
      go : (Memᴰ (Some x) os → Memᴰ x (present os)) → (Some x ≡ Some y) ⊎ Memᴰ (Some x) os → Memᴰ x (y ∷ present os)
      go ih (inl e) = Memᴰ.head (some_one refl e)
      go ih (inr n) = Memᴰ.tail (ih n)

  -- A value that is present is there in the list.
  pub present_out : {x : X} (os : List (Option X)) → Memᴰ x (present os) → Memᴰ (Some x) os
  unfolding present
  present_out [] m = absurd (Memᴰ.not-nil m)
  present_out (None ∷ os) m = Memᴰ.tail (present_out os m)
  present_out {x} (Some y ∷ os) m = go (λ n. present_out os n) (Memᴰ.cases_cons m)
    where
      go : (Memᴰ x (present os) → Memᴰ (Some x) os) → (x ≡ y) ⊎ Memᴰ x (present os) → Memᴰ (Some x) (Some y ∷ os)
      go ih (inl e) = Memᴰ.head (ap {B = Option X} Some e)
      go ih (inr n) = Memᴰ.tail (ih n)

  -- What is present of a list mapped to options: it comes of a member.
  pub present_map_out : {Y : Type 0} (f : Y → Option X) (ys : List Y) {x : X} → Memᴰ x (present (map f ys))
      → (y : Y) × Memᴰ y ys × (f y ≡ Some x)
  present_map_out f ys m = Memᴰ.of_map f ys (present_out (map f ys) m)

  -- What a member is mapped to is present.
  pub present_map_in : {Y : Type 0} (f : Y → Option X) {y : Y} (ys : List Y) {x : X} → Memᴰ y ys → f y ≡ Some x
      → Memᴰ x (present (map f ys))
  present_map_in f ys m e = present_in (map f ys) (Memᴰ.cast (sym e) (Memᴰ.map f m))

-- Two lists mapped to options with the same values by p and q: so are the values present.
pub present_map_same : {A : Type 0} {X : Type 0} {Y : Type 0} {Z : Type 0} (f : A → Option X) (g : A → Option Y) (p : X → Z)
    (q : Y → Z) → ((a : A) → option_map p (f a) ≡ option_map q (g a)) → (bs : List A)
    → map p (present (map f bs)) ≡ map q (present (map g bs))
unfolding present
present_map_same f g p q h [] = refl
present_map_same {X = X} {Y = Y} {Z = Z} f g p q h (a ∷ bs) = go (f a) (g a) (h a) (present_map_same f g p q h bs)
  where
    go : (o : Option X) (r : Option Y) → option_map p o ≡ option_map q r → map p (present (map f bs)) ≡ map q (present (map g bs))
        → map p (present (o ∷ map f bs)) ≡ map q (present (r ∷ map g bs))
    go None None e ih = ih
    go None (Some y) e ih = none-some refl e
    go (Some x) None e ih = none-some refl (sym e)
    go (Some x) (Some y) e ih = cc

-- Keys strictly ascending.
unfoldable pub Rising {ℓ} : {X : Type ℓ} → (X → ℕ) → List X → Type 0
Rising key [] = Unit {0}
Rising key (x ∷ []) = Unit {0}
Rising key (x ∷ y ∷ xs) = (key x < key y) × Rising key (y ∷ xs)

-- An element whose key is below all others goes before a rising list.
rising_cons {ℓ} : {X : Type ℓ} (key : X → ℕ) (x : X) (xs : List X) → ((y : X) → Memᴰ y xs → key x < key y) → Rising key xs
    → Rising key (x ∷ xs)
unfolding Rising
rising_cons key x [] low r = tt
rising_cons key x (y ∷ xs) low r = (low y (Memᴰ.head refl), r)

-- What is present of the numbers in order, mapped to options, is in order of the numbers.
pub present_rising : {X : Type 0} (f : ℕ → Option X) (key : X → ℕ) → ((a : ℕ) (x : X) → f a ≡ Some x → key x ≡ a) → (k n : ℕ)
    → Rising key (present (map f (count_from k n)))
unfolding count_from present Rising
present_rising f key h k zero = tt
present_rising {X = X} f key h k (suc n) = go (f k) refl (present_rising f key h (suc k) n)
  where
    above : (x : X) → key x ≡ k → (y : X) → Memᴰ y (present (map f (count_from (suc k) n))) → key x < key y
    above x e y m =
        let (a, at, p) = present_map_out f (count_from (suc k) n) m in
        let (low, high) = mem_count_from (suc k) n at in
        let q = h a y p in
        omega arith

    go : (o : Option X) → f k ≡ o → Rising key (present (map f (count_from (suc k) n)))
        → Rising key (present (o ∷ map f (count_from (suc k) n)))
    go None e r = r
    go (Some x) e r = rising_cons key x (present (map f (count_from (suc k) n))) (above x (h k x e)) r

-- What is present of the numbers below n, mapped to options, is in order of the numbers.
pub below_ascending : {X : Type 0} (f : ℕ → Option X) (key : X → ℕ) → ((a : ℕ) (x : X) → f a ≡ Some x → key x ≡ a) → (n : ℕ)
    → Rising key (present (map f (below n)))
unfolding below
below_ascending f key h n = present_rising f key h 0 n

-- ---- The place of the first that passes

module _ {ℓ} {X : Type ℓ} (test : X → Bool) where
  -- It is at most the length.
  pub place_of_le : (xs : List X) → place_of test xs ≤ length xs
  unfolding place_of
  place_of_le [] = omega arith
  place_of_le (x ∷ xs) = go (test x) (place_of_le xs)
    where
      go : (b : Bool) → place_of test xs ≤ length xs → pick b (λ _. 0) (λ _. suc (place_of test xs)) ≤ suc (length xs)
      go true ih = omega arith
      go false ih = omega arith

  -- A member passes: the place is below the length.
  pub place_of_found : {x : X} {xs : List X} → Memᴰ x xs → test x ≡ true → place_of test xs < length xs
  unfolding place_of
  place_of_found (Memᴰ.head {x = y} {xs = ys} e) p = go (test y) (ap test (sym e) ∙ p)
    where
      go : (b : Bool) → b ≡ true → pick b (λ _. 0) (λ _. suc (place_of test ys)) < suc (length ys)
      go true q = omega arith
      go false q = never_both q refl
  place_of_found (Memᴰ.tail {x = y} {xs = ys} m) p = go (test y) (place_of_found m p)
    where
      go : (b : Bool) → place_of test ys < length ys → pick b (λ _. 0) (λ _. suc (place_of test ys)) < suc (length ys)
      go true ih = omega arith
      go false ih = omega arith

  -- Some element passes: the place is below the length.
  pub place_of_some : (xs : List X) → some_of test xs ≡ true → place_of test xs < length xs
  place_of_some xs e = let (x, m, p) = some_at test xs e in place_of_found m p

  -- The element at the place passes.
  pub place_of_at : (xs : List X) (d : X) → place_of test xs < length xs → test (get_or xs (place_of test xs) d) ≡ true
  unfolding place_of
  place_of_at [] d l = absurd (omega arith)
  place_of_at (x ∷ xs) d l = go (test x) refl l (λ k. place_of_at xs d k)
    where
      go : (b : Bool) → test x ≡ b → pick b (λ _. 0) (λ _. suc (place_of test xs)) < suc (length xs)
          → (place_of test xs < length xs → test (get_or xs (place_of test xs) d) ≡ true)
          → test (get_or (x ∷ xs) (pick b (λ _. 0) (λ _. suc (place_of test xs))) d) ≡ true
      go true e k ih = e
      go false e k ih = ih (omega arith)

  -- No earlier element passes.
  pub place_of_before : (xs : List X) (i : ℕ) (d : X) → i < place_of test xs → test (get_or xs i d) ≡ false
  unfolding place_of
  place_of_before [] i d l = absurd (omega arith)
  place_of_before (x ∷ xs) i d l = go (test x) refl i l (λ j k. place_of_before xs j d k)
    where
      go : (b : Bool) → test x ≡ b → (i : ℕ) → i < pick b (λ _. 0) (λ _. suc (place_of test xs))
          → ((j : ℕ) → j < place_of test xs → test (get_or xs j d) ≡ false) → test (get_or (x ∷ xs) i d) ≡ false
      go true e i k ih = absurd (omega arith)
      go false e zero k ih = e
      go false e (suc j) k ih = ih j (omega arith)

  -- The place is the first index whose element passes.
  pub place_of_first : (xs : List X) (i : ℕ) (d : X) → i < length xs → test (get_or xs i d) ≡ true
      → ((j : ℕ) → j < i → test (get_or xs j d) ≡ false) → place_of test xs ≡ i
  unfolding place_of
  place_of_first [] i d l p h = absurd (omega arith)
  place_of_first (x ∷ xs) i d l p h = go (test x) refl i l p h (λ j k q g. place_of_first xs j d k q g)
    where
      go : (b : Bool) → test x ≡ b → (i : ℕ) → i < suc (length xs) → test (get_or (x ∷ xs) i d) ≡ true
          → ((j : ℕ) → j < i → test (get_or (x ∷ xs) j d) ≡ false)
          → ((j : ℕ) → j < length xs → test (get_or xs j d) ≡ true → ((k : ℕ) → k < j → test (get_or xs k d) ≡ false) → place_of test xs ≡ j)
          → pick b (λ _. 0) (λ _. suc (place_of test xs)) ≡ i
      go true e zero k q g ih = refl
      go true e (suc i) k q g ih = never_both e (g 0 (omega arith))
      go false e zero k q g ih = never_both q e
      go false e (suc i) k q g ih = ap suc (ih i (omega arith) q (λ j k. g (suc j) (omega arith)))

  -- Nothing passes: the place is the length.
  pub place_of_none : (xs : List X) → some_of test xs ≡ false → place_of test xs ≡ length xs
  unfolding place_of some_of
  place_of_none [] e = refl
  place_of_none (x ∷ xs) e = go (test x) e (λ q. place_of_none xs q)
    where
      go : (b : Bool) → (b || some_of test xs) ≡ false → (some_of test xs ≡ false → place_of test xs ≡ length xs)
          → pick b (λ _. 0) (λ _. suc (place_of test xs)) ≡ suc (length xs)
      go true q ih = never_both refl q
      go false q ih = ap suc (ih q)

  -- Some element of the first list passes: what follows it does not matter.
  pub place_of_append_left : (xs ys : List X) → some_of test xs ≡ true → place_of test (xs ++ ys) ≡ place_of test xs
  unfolding place_of some_of
  place_of_append_left [] ys e = never_both e refl
  place_of_append_left (x ∷ xs) ys e = go (test x) e (λ q. place_of_append_left xs ys q)
    where
      go : (b : Bool) → (b || some_of test xs) ≡ true → (some_of test xs ≡ true → place_of test (xs ++ ys) ≡ place_of test xs)
          → pick b (λ _. 0) (λ _. suc (place_of test (xs ++ ys))) ≡ pick b (λ _. 0) (λ _. suc (place_of test xs))
      go true q ih = refl
      go false q ih = ap suc (ih q)

  -- No element of the first list passes: the place is behind it.
  pub place_of_append_right : (xs ys : List X) → some_of test xs ≡ false → place_of test (xs ++ ys) ≡ length xs + place_of test ys
  unfolding place_of some_of
  place_of_append_right [] ys e = omega arith
  place_of_append_right (x ∷ xs) ys e = go (test x) e (λ q. place_of_append_right xs ys q)
    where
      go : (b : Bool) → (b || some_of test xs) ≡ false → (some_of test xs ≡ false → place_of test (xs ++ ys) ≡ length xs + place_of test ys)
          → pick b (λ _. 0) (λ _. suc (place_of test (xs ++ ys))) ≡ suc (length xs) + place_of test ys
      go true q ih = never_both refl q
      go false q ih = let r = ih q in omega arith

  -- ---- The leading ones that pass

  -- There are at most as many as elements.
  pub leading_le : (xs : List X) → leading test xs ≤ length xs
  unfolding leading
  leading_le [] = omega arith
  leading_le (x ∷ xs) = go (test x) (leading_le xs)
    where
      go : (b : Bool) → leading test xs ≤ length xs → pick b (λ _. suc (leading test xs)) (λ _. 0) ≤ suc (length xs)
      go true ih = omega arith
      go false ih = omega arith

  -- Each of them passes.
  pub leading_at : (xs : List X) (i : ℕ) (d : X) → i < leading test xs → test (get_or xs i d) ≡ true
  unfolding leading
  leading_at [] i d l = absurd (omega arith)
  leading_at (x ∷ xs) i d l = go (test x) refl i l (λ j k. leading_at xs j d k)
    where
      go : (b : Bool) → test x ≡ b → (i : ℕ) → i < pick b (λ _. suc (leading test xs)) (λ _. 0)
          → ((j : ℕ) → j < leading test xs → test (get_or xs j d) ≡ true) → test (get_or (x ∷ xs) i d) ≡ true
      go true e zero k ih = e
      go true e (suc j) k ih = ih j (omega arith)
      go false e i k ih = absurd (omega arith)

  -- The next one fails.
  pub leading_stop : (xs : List X) (d : X) → leading test xs < length xs → test (get_or xs (leading test xs) d) ≡ false
  unfolding leading
  leading_stop [] d l = absurd (omega arith)
  leading_stop (x ∷ xs) d l = go (test x) refl l (λ k. leading_stop xs d k)
    where
      go : (b : Bool) → test x ≡ b → pick b (λ _. suc (leading test xs)) (λ _. 0) < suc (length xs)
          → (leading test xs < length xs → test (get_or xs (leading test xs) d) ≡ false)
          → test (get_or (x ∷ xs) (pick b (λ _. suc (leading test xs)) (λ _. 0)) d) ≡ false
      go true e k ih = ih (omega arith)
      go false e k ih = e

-- ---- Lists one after the other

module _ {ℓ} {X : Type ℓ} where
  -- A member of one of the lists is a member of all of them joined.
  pub joined_in : {x : X} {xs : List X} {xss : List (List X)} → Memᴰ x xs → Memᴰ xs xss → Memᴰ x (joined xss)
  unfolding joined
  joined_in m (Memᴰ.head {x = ys} {xs = yss} e) = Memᴰ.append_left (joined yss) (mem_along e m)
  joined_in m (Memᴰ.tail {x = ys} {xs = yss} n) = Memᴰ.append_right ys (joined_in m n)

  -- A member of all of them joined is a member of one.
  pub joined_out : {x : X} (xss : List (List X)) → Memᴰ x (joined xss) → (xs : List X) × Memᴰ xs xss × Memᴰ x xs
  unfolding joined
  joined_out [] m = absurd (Memᴰ.not-nil m)
  joined_out {x} (ys ∷ xss) m = go (λ n. joined_out xss n) (Memᴰ.append_cases ys m)
    where
      go : (Memᴰ x (joined xss) → (xs : List X) × Memᴰ xs xss × Memᴰ x xs) → Memᴰ x ys ⊎ Memᴰ x (joined xss)
          → (xs : List X) × Memᴰ xs (ys ∷ xss) × Memᴰ x xs
      go ih (inl n) = (ys, Memᴰ.head refl, n)
      go ih (inr n) = let (xs, at, k) = ih n in (xs, Memᴰ.tail at, k)

  -- The length of the joined lists is the sum of theirs.
  pub length_joined : (xss : List (List X)) → length (joined xss) ≡ total (map (λ (xs : List X). length xs) xss)
  unfolding joined total
  length_joined [] = refl
  length_joined (xs ∷ xss) = length-append xs (joined xss) ∙ ap (λ (n : ℕ). length xs + n) (length_joined xss)

  -- Joining two lists of lists.
  pub joined_append : (xss yss : List (List X)) → joined (xss ++ yss) ≡ joined xss ++ joined yss
  unfolding joined
  joined_append [] yss = refl
  joined_append (xs ∷ xss) yss = ap (λ (zs : List X). xs ++ zs) (joined_append xss yss) ∙ sym (append_assoc xs (joined xss) (joined yss))

-- The sum of two lists of numbers, one after the other.
pub total_append : (ns ms : List ℕ) → total (ns ++ ms) ≡ total ns + total ms
unfolding total
total_append [] ms = omega arith
total_append (n ∷ ns) ms = let ih = total_append ns ms in omega arith

-- A number is at most the sum of a list that it stands in.
pub total_mem : {n : ℕ} {ns : List ℕ} → Memᴰ n ns → n ≤ total ns
unfolding total
total_mem (Memᴰ.head p) = omega arith
total_mem (Memᴰ.tail m) = let ih = total_mem m in omega arith

-- ---- Beginnings

-- The first list begins the second: the second is the first and a rest.
pub begins_out : (xs ys : List ℕ) → begins xs ys ≡ true → ys ≡ xs ++ drop (length xs) ys
unfolding begins
begins_out [] ys e = refl
begins_out (x ∷ xs) [] e = never_both e refl
begins_out (x ∷ xs) (y ∷ ys) e =
    let p = eqb-true x y (and_left (eqb x y) (begins xs ys) e) in
    let q = begins_out xs ys (and_right (eqb x y) (begins xs ys) e) in
    ap₂ (λ (z : ℕ) (zs : List ℕ). z ∷ zs) (sym p) q

-- A list begins what it stands in front of.
pub begins_in : (xs zs : List ℕ) → begins xs (xs ++ zs) ≡ true
unfolding begins
begins_in [] zs = refl
begins_in (x ∷ xs) zs = and_both (eq-eqb x x refl) (begins_in xs zs)

-- ---- What counts as one and the same

-- A test that says of two whether they are one and the same: an equivalence.
pub record IsSame {X : Type 0} (same : X → X → Bool) : Type 0 where
  pub itself : (x : X) → same x x ≡ true
  pub turned : (x y : X) → same x y ≡ true → same y x ≡ true
  pub chained : (x y z : X) → same x y ≡ true → same y z ≡ true → same x z ≡ true

module _ {X : Type 0} (same : X → X → Bool) where
  -- A test that decides equality is one.
  pub decides_same : ((x y : X) → same x y ≡ true → x ≡ y) → ((x : X) → same x x ≡ true) → IsSame same
  decides_same out itself =
      record {
        itself = itself;
        turned = λ x y p. rw (out x y p) (itself y);
        chained = λ x y z p q. rw (out x y p) q;
      }

  -- Of options, if of their values.
  pub options_same : IsSame same → IsSame (same_option same)
  unfolding same_option
  options_same is =
      record {
        itself = same_option_refl same is.itself;
        turned = back;
        chained = on;
      }
    where
      back : (o p : Option X) → same_option same o p ≡ true → same_option same p o ≡ true
      back None None e = e
      back None (Some y) e = e
      back (Some x) None e = e
      back (Some x) (Some y) e = is.turned x y e

      on : (o p q : Option X) → same_option same o p ≡ true → same_option same p q ≡ true → same_option same o q ≡ true
      on None None q e f = f
      on None (Some y) q e f = never_both e refl
      on (Some x) None q e f = never_both e refl
      on (Some x) (Some y) None e f = f
      on (Some x) (Some y) (Some z) e f = is.chained x y z e f

-- ---- Distinct

-- Distinct elements stay distinct under a function that tells them apart.
pub distinct_map {ℓ κ} : {X : Type ℓ} {Y : Type κ} (f : X → Y) (xs : List X)
    → ((x y : X) → Memᴰ x xs → Memᴰ y xs → f x ≡ f y → x ≡ y) → Distinct xs → Distinct (map f xs)
unfolding Distinct
distinct_map f [] apart distinct = tt
distinct_map f (x ∷ xs) apart (new, distinct) = (
  λ m.
      let (y, here, e) = Memᴰ.of_map f xs m in
      new (Memᴰ.cast (apart x y (Memᴰ.head refl) (Memᴰ.tail here) (sym e)) here),
  distinct_map f xs (λ y z m n. apart y z (Memᴰ.tail m) (Memᴰ.tail n)) distinct,
)
