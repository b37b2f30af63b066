-- Laws of counting.
use Prim.Native.Nat.{ℕ, zero, suc, ◌+◌, ◌≤◌, ◌<◌}
use native.Mathlib.Omega.{arith}
use native.Mathlib.Decide.{ℕ_discrete}
use mathlib.Core.Path.{◌≡◌, refl, sym, subst}
use mathlib.Core.Bool.{Bool, true, false}
use Rattle.base.specs.Choice.{pick}
use Rattle.base.proofs.Lists.{never_both}
use Rattle.pair_graph.specs.Counting.{count}

-- Equal tests are passed by as many.
pub count_same : (test other : ℕ → Bool) (n : ℕ) → ((k : ℕ) → k < n → other k ≡ test k) → count other n ≡ count test n
unfolding count
count_same test other zero same = refl
count_same test other (suc n) same =
    let here = same n (omega arith) in
    let rest = count_same test other n (λ k l. same k (omega arith)) in
    rw (here, rest)

-- One that passes no longer is one less.
pub count_drop : (test other : ℕ → Bool) (n i : ℕ) → i < n → test i ≡ true → other i ≡ false
    → ((k : ℕ) → k < n → (k ≡ i → ⊥) → other k ≡ test k) → count other n + 1 ≡ count test n
unfolding count
count_drop test other zero i l e f same = absurd (omega arith)
count_drop test other (suc n) i l e f same =
    go (ℕ_discrete i n) (λ m. count_drop test other n i m e f (λ k o. same k (omega arith)))
  where
    go : Dec (i ≡ n) → (i < n → count other n + 1 ≡ count test n)
        → pick (other n) (λ _. 1) (λ _. 0) + count other n + 1 ≡ pick (test n) (λ _. 1) (λ _. 0) + count test n
    go (yes here) ih =
        let on : test n ≡ true = subst (λ x. test x ≡ true) here e in
        let off : other n ≡ false = subst (λ x. other x ≡ false) here f in
        let rest = count_same test other n (λ k m. same k (omega arith) (λ s. omega arith)) in
        rw (on, off) (omega arith)
    go (no apart) ih =
        let less : i < n = omega (arith, apart) in
        let equal = same n (omega arith) (λ s. apart (sym s)) in
        let rest = ih less in
        rw equal (omega arith)

-- One that passes counts.
pub count_there : (test : ℕ → Bool) (n i : ℕ) → i < n → test i ≡ true → 0 < count test n
unfolding count
count_there test zero i l e = absurd (omega arith)
count_there test (suc n) i l e = go (ℕ_discrete i n) (λ m. count_there test n i m e)
  where
    go : Dec (i ≡ n) → (i < n → 0 < count test n) → 0 < pick (test n) (λ _. 1) (λ _. 0) + count test n
    go (yes here) ih = let on : test n ≡ true = subst (λ x. test x ≡ true) here e in rw on (omega arith)
    go (no apart) ih = let less : i < n = omega (arith, apart) in omega (arith, ih less)

-- No more pass than there are.
pub count_most : (test : ℕ → Bool) (n : ℕ) → count test n ≤ n
unfolding count
count_most test zero = omega arith
count_most test (suc n) = go (test n) (count_most test n)
  where
    go : (b : Bool) → count test n ≤ n → pick b (λ _. 1) (λ _. 0) + count test n ≤ suc n
    go true ih = omega arith
    go false ih = omega arith

-- A test that passes more is passed by at least as many,
pub count_le : (test other : ℕ → Bool) (n : ℕ) → ((k : ℕ) → k < n → test k ≡ true → other k ≡ true) → count test n ≤ count other n
unfolding count
count_le test other zero more = omega arith
count_le test other (suc n) more = go (test n) (other n) (more n (omega arith)) (count_le test other n (λ k l. more k (omega arith)))
  where
    go : (a b : Bool) → (a ≡ true → b ≡ true) → count test n ≤ count other n
        → pick a (λ _. 1) (λ _. 0) + count test n ≤ pick b (λ _. 1) (λ _. 0) + count other n
    go true true h ih = omega arith
    go true false h ih = never_both (h refl) refl
    go false true h ih = omega arith
    go false false h ih = omega arith

-- and by more if there is one that passes it alone.
pub count_more : (test other : ℕ → Bool) (n i : ℕ) → ((k : ℕ) → k < n → test k ≡ true → other k ≡ true) → i < n → test i ≡ false
    → other i ≡ true → count test n < count other n
unfolding count
count_more test other zero i more l off on = absurd (omega arith)
count_more test other (suc n) i more l off on =
    go (ℕ_discrete i n) (λ m. count_more test other n i (λ k o. more k (omega arith)) m off on)
  where
    rest : count test n ≤ count other n
    rest = count_le test other n (λ k o. more k (omega arith))

    here : (a b : Bool) → (a ≡ true → b ≡ true) → count test n < count other n
        → pick a (λ _. 1) (λ _. 0) + count test n < pick b (λ _. 1) (λ _. 0) + count other n
    here true true h ih = omega arith
    here true false h ih = never_both (h refl) refl
    here false true h ih = omega arith
    here false false h ih = omega arith

    go : Dec (i ≡ n) → (i < n → count test n < count other n)
        → pick (test n) (λ _. 1) (λ _. 0) + count test n < pick (other n) (λ _. 1) (λ _. 0) + count other n
    go (yes same) ih =
        let no_more : test n ≡ false = subst (λ x. test x ≡ false) same off in
        let now : other n ≡ true = subst (λ x. other x ≡ true) same on in
        rw (no_more, now) (omega (arith, rest))
    go (no apart) ih = here (test n) (other n) (more n (omega arith)) (ih (omega (arith, apart)))
