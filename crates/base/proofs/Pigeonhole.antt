-- The pigeonhole principle, for a link between numbers.
use Prim.Native.Nat.{ℕ, zero, suc, ◌≤◌, ◌<◌}
use native.Mathlib.Omega.{arith}
use native.Mathlib.Decide.{dec_lt}
use mathlib.Core.Path.{◌≡◌}
use mathlib.Core.Logic.{◌⊎◌, inl, inr}

-- R beside x: what is linked to x is left out, and what is behind x moves up.
abbrev Beside : (ℕ → ℕ → Type 0) → ℕ → ℕ → ℕ → Type 0
Beside R x i j = ((j < x) × R i j) ⊎ ((x ≤ j) × R i (suc j))

give_beside : (R : ℕ → ℕ → Type 0) (x m i j : ℕ) → x < suc m → j < suc m → (j ≡ x → ⊥) → R i j → (k : ℕ) × (k < m) × Beside R x i k
give_beside R x m i j lt less n r = go j less n r (dec_lt j x)
  where
    go : (j : ℕ) → j < suc m → (j ≡ x → ⊥) → R i j → Dec (j < x) → (k : ℕ) × (k < m) × Beside R x i k
    go j less n r (yes l) = (j, omega arith, inl (l, r))
    go zero less n r (no l) = absurd (omega arith)
    go (suc j) less n r (no l) = (j, omega arith, inr (omega arith, r))

one_beside : (R : ℕ → ℕ → Type 0) (x : ℕ) → ((i k j : ℕ) → R i j → R k j → i ≡ k) → (i k j : ℕ) → Beside R x i j → Beside R x k j → i ≡ k
one_beside R x one i k j (inl (l, r)) (inl (l', r')) = one i k j r r'
one_beside R x one i k j (inl (l, r)) (inr (l', r')) = absurd (omega arith)
one_beside R x one i k j (inr (l, r)) (inl (l', r')) = absurd (omega arith)
one_beside R x one i k j (inr (l, r)) (inr (l', r')) = one i k (suc j) r r'

-- Pigeonhole: if each number below n has one below m, and no two have the same, n is at most m.
pub pigeonhole : (R : ℕ → ℕ → Type 0) (n m : ℕ) → ((i : ℕ) → i < n → (j : ℕ) × (j < m) × R i j)
    → ((i k j : ℕ) → R i j → R k j → i ≡ k) → n ≤ m
pigeonhole R zero m give one = omega arith
pigeonhole R (suc n) zero give one = let (j, lt, r) = give n (omega arith) in absurd (omega arith)
pigeonhole R (suc n) (suc m) give one = go (give n (omega arith)) (λ S. pigeonhole S n m)
  where
    go : (j : ℕ) × (j < suc m) × R n j
        → ((S : ℕ → ℕ → Type 0) → ((i : ℕ) → i < n → (j : ℕ) × (j < m) × S i j) → ((i k j : ℕ) → S i j → S k j → i ≡ k) → n ≤ m)
        → suc n ≤ suc m
    go (x, lt, r) ih =
        let least : n ≤ m =
        ih (Beside R x)
        (λ i l.
        let (j, less, q) = give i (omega arith) in
        give_beside R x m i j lt less (λ e. let same = one i n x (rw e at q) r in omega arith) q)
        (one_beside R x one) in
        omega arith
