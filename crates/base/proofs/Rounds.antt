-- A chain of tests on a list, each passed by no more than the one before, rests within as many rounds as the list is long.
use Prim.Native.Nat.{ℕ, zero, suc, ◌≤◌, ◌<◌}
use mathlib.Core.Path.{◌≡◌, refl, sym, ap, ◌∙◌}
use mathlib.Core.Bool.{Bool, true, false, beq}
use mathlib.Core.List.{List, [], ◌∷◌, Memᴰ}
use native.Mathlib.Omega.{arith}
use native.Mathlib.Decide.{le_ind}
use lib.ListN.{length}
use lib.Dec.{leb}
use borrow.Author.Tests.{leb-true, leb-false}
use Rattle.base.specs.Choice.{pick}
use Rattle.base.specs.Lists.{every}
use Rattle.base.specs.Search.{rest_round}
use Rattle.base.proofs.Lists.{whether, never_both, same_truth, beq_out, beq_in, every_at, every_false}

-- how many elements pass the test
unfoldable pub passing : {X : Type 0} → (X → Bool) → List X → ℕ
passing test [] = 0
passing test (x ∷ xs) = pick (test x) (λ _. suc (passing test xs)) (λ _. passing test xs)

-- They are at most as many as there are elements.
pub passing_le : {X : Type 0} (test : X → Bool) (xs : List X) → passing test xs ≤ length xs
unfolding passing
passing_le test [] = omega arith
passing_le test (x ∷ xs) = go (test x) (passing_le test xs)
  where
    go : (b : Bool) → passing test xs ≤ length xs → pick b (λ _. suc (passing test xs)) (λ _. passing test xs) ≤ suc (length xs)
    go true ih = omega arith
    go false ih = omega arith

-- A member that passes counts.
pub passing_mem : {X : Type 0} (test : X → Bool) {x : X} {xs : List X} → Memᴰ x xs → test x ≡ true → 0 < passing test xs
unfolding passing
passing_mem test (Memᴰ.head {x = y} {xs = ys} e) p = go (test y) (ap test (sym e) ∙ p)
  where
    go : (b : Bool) → b ≡ true → 0 < pick b (λ _. suc (passing test ys)) (λ _. passing test ys)
    go true q = omega arith
    go false q = never_both q refl
passing_mem test (Memᴰ.tail {x = y} {xs = ys} m) p = go (test y) (passing_mem test m p)
  where
    go : (b : Bool) → 0 < passing test ys → 0 < pick b (λ _. suc (passing test ys)) (λ _. passing test ys)
    go true ih = omega arith
    go false ih = omega arith

module _ {X : Type 0} (test other : X → Bool) where
  -- Where each member that passes the second test passes the first, no more pass the second.
  pub passing_fewer : (xs : List X) → ((x : X) → Memᴰ x xs → other x ≡ true → test x ≡ true) → passing other xs ≤ passing test xs
  unfolding passing
  passing_fewer [] h = omega arith
  passing_fewer (x ∷ xs) h = go (other x) (test x) (h x (Memᴰ.head refl)) (passing_fewer xs (λ y m. h y (Memᴰ.tail m)))
    where
      go : (b c : Bool) → (b ≡ true → c ≡ true) → passing other xs ≤ passing test xs
          → pick b (λ _. suc (passing other xs)) (λ _. passing other xs) ≤ pick c (λ _. suc (passing test xs)) (λ _. passing test xs)
      go true true k ih = omega arith
      go true false k ih = never_both (k refl) refl
      go false true k ih = omega arith
      go false false k ih = omega arith

  -- And fewer, if a member passes the first and fails the second.
  pub passing_falls : {y : X} {xs : List X} → Memᴰ y xs → ((x : X) → Memᴰ x xs → other x ≡ true → test x ≡ true) → test y ≡ true
      → other y ≡ false → passing other xs < passing test xs
  unfolding passing
  passing_falls (Memᴰ.head {x = x} {xs = xs} e) h p q =
      go (other x) (test x) (ap other (sym e) ∙ q) (ap test (sym e) ∙ p) (passing_fewer xs (λ z m. h z (Memᴰ.tail m)))
    where
      go : (b c : Bool) → b ≡ false → c ≡ true → passing other xs ≤ passing test xs
          → pick b (λ _. suc (passing other xs)) (λ _. passing other xs) < pick c (λ _. suc (passing test xs)) (λ _. passing test xs)
      go true c k l ih = never_both refl k
      go false true k l ih = omega arith
      go false false k l ih = never_both l refl
  passing_falls (Memᴰ.tail {x = x} {xs = xs} m) h p q =
      go (other x) (test x) (h x (Memᴰ.head refl)) (passing_falls m (λ z k. h z (Memᴰ.tail k)) p q)
    where
      go : (b c : Bool) → (b ≡ true → c ≡ true) → passing other xs < passing test xs
          → pick b (λ _. suc (passing other xs)) (λ _. passing other xs) < pick c (λ _. suc (passing test xs)) (λ _. passing test xs)
      go true true k ih = omega arith
      go true false k ih = never_both (k refl) refl
      go false true k ih = omega arith
      go false false k ih = omega arith

-- A chain of tests on a list: what passes one round passed the round before, and where a round changes nothing, the next changes nothing.
pub record Falling {X : Type 0} (test : ℕ → X → Bool) (xs : List X) : Type 0 where
  pub falls : (k : ℕ) (x : X) → Memᴰ x xs → test (suc k) x ≡ true → test k x ≡ true
  pub rests : (k : ℕ) → ((x : X) → Memᴰ x xs → test k x ≡ test (suc k) x) → (x : X) → Memᴰ x xs
      → test (suc k) x ≡ test (suc (suc k)) x

module _ {X : Type 0} (test : ℕ → X → Bool) (xs : List X) where
  -- all agree in round k and the next
  abbrev agree : ℕ → Bool
  agree k = every (λ x. beq (test k x) (test (suc k) x)) xs

  -- the round that is found
  abbrev last : ℕ
  last = rest_round test xs (length xs) 0

  module _ (falling : Falling test xs) where
    -- Where not all agree, fewer pass the next round.
    fewer : (k : ℕ) → agree k ≡ false → passing (test (suc k)) xs < passing (test k) xs
    fewer k e =
        let (x, m, p) = every_false (λ x. beq (test k x) (test (suc k) x)) xs e in
        go x m p (test k x) (test (suc k) x) refl refl
      where
        go : (x : X) → Memᴰ x xs → beq (test k x) (test (suc k) x) ≡ false → (b c : Bool) → test k x ≡ b → test (suc k) x ≡ c
            → passing (test (suc k)) xs < passing (test k) xs
        go x m p b true q r = never_both (beq_in (test k x) (test (suc k) x) (falling.falls k x m r ∙ sym r)) p
        go x m p true false q r = passing_falls (test k) (test (suc k)) m (falling.falls k) q r
        go x m p false false q r = never_both (beq_in (test k x) (test (suc k) x) (q ∙ sym r)) p

    rests_within : (n k : ℕ) → passing (test k) xs ≤ n → (x : X) → Memᴰ x xs
        → test (rest_round test xs n k) x ≡ test (suc (rest_round test xs n k)) x
    unfolding rest_round
    rests_within zero k l x m =
        same_truth (test k x) (test (suc k) x) (λ p. absurd (omega (arith, passing_mem (test k) m p))) (falling.falls k x m)
    rests_within (suc n) k l x m = go (agree k) refl (λ h. rests_within n (suc k) h x m)
      where
        go : (b : Bool) → agree k ≡ b
            → (passing (test (suc k)) xs ≤ n → test (rest_round test xs n (suc k)) x ≡ test (suc (rest_round test xs n (suc k))) x)
            → test (pick b (λ _. k) (λ _. rest_round test xs n (suc k))) x
            ≡ test (suc (pick b (λ _. k) (λ _. rest_round test xs n (suc k)))) x
        go true e ih = beq_out (test k x) (test (suc k) x) (every_at (λ x. beq (test k x) (test (suc k) x)) e m)
        go false e ih = ih (omega (arith, fewer k e))

    -- What passes a round passed each round before.
    pub falls_from : {x : X} → Memᴰ x xs → (j k : ℕ) → j ≤ k → test k x ≡ true → test j x ≡ true
    falls_from {x} m j k l = le_ind (λ i. test i x ≡ true → test j x ≡ true) (λ e. e) (λ i b ih e. ih (falling.falls i x m e)) k l

    -- Where a round changes nothing, no later one does.
    pub rests_on : (k : ℕ) → ((x : X) → Memᴰ x xs → test k x ≡ test (suc k) x) → (j : ℕ) → k ≤ j → (x : X) → Memᴰ x xs
        → test k x ≡ test j x
    rests_on k still j l x m = (both j l).1
      where
        both : (j : ℕ) → k ≤ j → ((y : X) → Memᴰ y xs → test j y ≡ test (suc j) y) × (test k x ≡ test j x)
        both =
            le_ind
            (λ i. ((y : X) → Memᴰ y xs → test i y ≡ test (suc i) y) × (test k x ≡ test i x))
            (still, refl)
            (λ i b h. (falling.rests i h.0, h.1 ∙ h.0 x m))

    -- The round that is found changes nothing.
    pub rest_round_rests : (x : X) → Memᴰ x xs → test last x ≡ test (suc last) x
    rest_round_rests = rests_within (length xs) 0 (passing_le (test 0) xs)

    -- What passes the round that is found passes every round.
    pub rest_round_holds : {x : X} → Memᴰ x xs → test last x ≡ true → (j : ℕ) → test j x ≡ true
    rest_round_holds {x} m e j =
        whether
        (leb last j)
        (λ l. sym (rests_on last rest_round_rests j (leb-true last j l) x m) ∙ e)
        (λ l. falls_from m j last (omega (arith, leb-false last j l)) e)
